-- What a handle names among the files of a sound map.
use Rattle.std.proofs.Common.{ℕ, zero, suc, ◌≡◌, ◌<◌, ◌≤◌, Bool, true, false, cond, ◌==◌, ◌&&◌, refl, sym, ap, subst, ◌∙◌, arith, nat_le, nat_lt}
use Rattle.std.proofs.lemmas.Bool.{and_from, le-leb, lt-ltb, eq-eqb, eqb-true, ne_eqb}
use Rattle.journal_world.specs.Maps.{Map}
use Rattle.journal_inode.specs.declared.version.FormatVersion.{FormatVersion}
use Rattle.journal_inode.specs.declared.node.Time.{Time}
use Rattle.journal_inode.specs.declared.node.FileNode.{FileNode}
use Rattle.journal_inode.specs.declared.node.Node.{Node}
use Rattle.journal_inode.specs.declared.node.Node.TheVariants.{Free, Root, File}
use Rattle.journal_inode.specs.declared.place.TheConstants.{INODES}
use Rattle.journal_inode.specs.Nodes.{Fits}
use Rattle.journal_inode.specs.Sound.{node_at, IsInPlace, HasSoundFiles}
use Rattle.journal_filestore.specs.declared.find.Target.{Target}
use Rattle.journal_filestore.specs.declared.find.Target.TheVariants.{Gone, Directory, Regular}
use Rattle.journal_filestore.specs.Files.{is_file_number, no_entry, entry_of, root_time, files_of}
use Rattle.journal_filestore.specs.Operations.{FileTarget, of_generation, file_target}
use Rattle.journal_filestore.specs.Operations.FileTarget.{gone, root, file}
use Rattle.journal_filestore.specs.Handles.{data_of, target_of, IsAt, IsSmall, IsTarget}

pub is_file_number-from : (i : ℕ) → 2 ≤ i → i < INODES → is_file_number i ≡ true
is_file_number-from i from to = and_from (nat_le 2 i) (nat_lt i INODES) (le-leb 2 i from) (lt-ltb i INODES to)

-- what a file's number has
pub entry_at : (version : FormatVersion) (m : Map) (i : ℕ) (n : Node) → is_file_number i ≡ true → node_at m i ≡ n → (files_of version m).at i ≡ entry_of version m n
unfolding files_of
entry_at version m i n number is = ap (λ b. cond b (entry_of version m (node_at m i)) no_entry) number ∙ ap (entry_of version m) is

root_at : (version : FormatVersion) (m : Map) (t : Time) → node_at m 1 ≡ Root t → (files_of version m).root ≡ t
unfolding files_of
root_at version m t is = ap root_time is

-- the root alone is a directory
only_root : (i : ℕ) (t : Time) → 1 ≤ i → IsInPlace i (Root t) → i ≡ 1
only_root zero t from placed = absurd (omega arith)
only_root (suc zero) t from placed = refl
only_root (suc (suc i)) t from placed = absurd placed

not_root_file : (i : ℕ) (f : FileNode) → 1 ≤ i → IsInPlace i (File f) → 2 ≤ i
not_root_file zero f from placed = absurd (omega arith)
not_root_file (suc zero) f from placed = absurd placed
not_root_file (suc (suc i)) f from placed = omega arith

not_root_free : (i g : ℕ) → 1 ≤ i → IsInPlace i (Free g) → 2 ≤ i
not_root_free zero g from placed = absurd (omega arith)
not_root_free (suc zero) g from placed = absurd placed
not_root_free (suc (suc i)) g from placed = omega arith

-- a handle of another number than the root's
target_of-entry : (version : FormatVersion) (m : Map) (i generation : ℕ) (n : Node) → 2 ≤ i → i < INODES → node_at m i ≡ n → file_target (files_of version m) i generation ≡ of_generation i generation (entry_of version m n)
target_of-entry version m i generation n from to is =
    ap (λ b. cond b (cond (generation == 1) root gone) (of_generation i generation ((files_of version m).at i))) (ne_eqb i 1 (λ e. absurd (omega arith)))
    ∙ ap (of_generation i generation) (entry_at version m i n (is_file_number-from i from to) is)

pub IsAt-found : {version : FormatVersion} (m : Map) (i generation : ℕ) (n : Node) → HasSoundFiles version m → 1 ≤ i → i < INODES → node_at m i ≡ n → IsAt version i generation m (target_of n i generation)
IsAt-found {version} m i generation n sound from to is = by_node n is (subst (IsInPlace i) is (sound.placed i to))
  where
    by_root : (t : Time) (b : Bool) → (generation == 1) ≡ b → node_at m i ≡ Root t → i ≡ 1 → IsAt version i generation m (cond b (Directory t) Gone)
    by_root t true is_one is one =
        (ap (λ k. file_target (files_of version m) k generation) one ∙ ap (λ b. cond b root gone) is_one, root_at version m t (ap (node_at m) (sym one) ∙ is))
    by_root t false is_one is one =
        ap (λ k. file_target (files_of version m) k generation) one ∙ ap (λ b. cond b root gone) is_one

    at_root : (t : Time) → node_at m i ≡ Root t → i ≡ 1 → IsAt version i generation m (cond ((i == 1) && (generation == 1)) (Directory t) Gone)
    at_root t is one =
        subst (λ b. IsAt version i generation m (cond (b && (generation == 1)) (Directory t) Gone)) (sym (eq-eqb i 1 one)) (by_root t (generation == 1) refl is one)

    by_file : (f : FileNode) (b : Bool) → (f.generation == generation) ≡ b → node_at m i ≡ File f → 2 ≤ i → IsAt version i generation m (cond b (Regular f) Gone)
    by_file f true current is above =
        (target_of-entry version m i generation (File f) above to is ∙ ap (λ b. cond b (file i (data_of version m f)) gone) current, is, is_file_number-from i above to)
    by_file f false current is above =
        target_of-entry version m i generation (File f) above to is ∙ ap (λ b. cond b (file i (data_of version m f)) gone) current

    by_node : (n : Node) → node_at m i ≡ n → IsInPlace i n → IsAt version i generation m (target_of n i generation)
    by_node (Free g) is placed = target_of-entry version m i generation (Free g) (not_root_free i g from placed) to is
    by_node (Root t) is placed = at_root t is (only_root i t from placed)
    by_node (File f) is placed = by_file f (f.generation == generation) refl is (not_root_file i f from placed)

-- a place of an inode that fits
pub IsTarget-target_of : (version : FormatVersion) (n : Node) (i generation : ℕ) → Fits n → IsSmall version n → IsTarget version i (target_of n i generation)
IsTarget-target_of version (Free g) i generation fits small = tt
IsTarget-target_of version (Root t) i generation fits small = by_tests (i == 1) (generation == 1) refl
  where
    by_tests : (b c : Bool) → (i == 1) ≡ b → IsTarget version i (cond (b && c) (Directory t) Gone)
    by_tests true true one = eqb-true i 1 one
    by_tests true false one = tt
    by_tests false c one = tt
IsTarget-target_of version (File f) i generation fits small = by_test (f.generation == generation)
  where
    by_test : (b : Bool) → IsTarget version i (cond b (Regular f) Gone)
    by_test true = (fits, small)
    by_test false = tt

-- what a case is where the handle names this
pub case-gone : {A : Type 0} (version : FormatVersion) (k : FileTarget → A) (m : Map) (i generation : ℕ) (p : Target) → p ≡ Gone → IsAt version i generation m p → k (file_target (files_of version m) i generation) ≡ k gone
case-gone version k m i generation p is at = ap k (let here : IsAt version i generation m Gone = subst (IsAt version i generation m) is at in here)

pub case-directory : {A : Type 0} (version : FormatVersion) (k : FileTarget → A) (m : Map) (i generation : ℕ) (p : Target) (t : Time) → p ≡ Directory t → IsAt version i generation m p → k (file_target (files_of version m) i generation) ≡ k root
case-directory version k m i generation p t is at = ap k (let here : IsAt version i generation m (Directory t) = subst (IsAt version i generation m) is at in here.0)

pub case-regular : {A : Type 0} (version : FormatVersion) (k : FileTarget → A) (m : Map) (i generation : ℕ) (p : Target) (f : FileNode) → p ≡ Regular f → IsAt version i generation m p → k (file_target (files_of version m) i generation) ≡ k (file i (data_of version m f))
case-regular version k m i generation p f is at = ap k (let here : IsAt version i generation m (Regular f) = subst (IsAt version i generation m) is at in here.0)

pub IsAt-is : (version : FormatVersion) (m : Map) (i generation : ℕ) (p q : Target) → p ≡ q → IsAt version i generation m p → IsAt version i generation m q
IsAt-is version m i generation p q is = subst (IsAt version i generation m) is
