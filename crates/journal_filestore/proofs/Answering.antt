-- What an operation answers that was told what its handle names.
use Rattle.std.proofs.Common.{ℕ, zero, suc, ◌≡◌, ◌≤◌, true, [], Some, Result, Ok, sym, ap, subst, ◌∙◌, arith}
use Rattle.journal_world.specs.Addresses.{Shape}
use Rattle.journal_world.specs.Maps.{Map}
use Rattle.journal_twophase.specs.Transactions.{TxnState}
use Rattle.journal_inode.specs.declared.version.FormatVersion.{FormatVersion}
use Rattle.journal_inode.specs.declared.node.Time.{Time}
use Rattle.journal_inode.specs.declared.node.FileNode.{FileNode}
use Rattle.journal_inode.specs.declared.node.Node.{Node}
use Rattle.journal_inode.specs.declared.node.Node.TheVariants.{Root, File}
use Rattle.journal_inode.specs.Sound.{node_at, IsInPlace, IsSoundFile, HasSoundFiles}
use Rattle.journal_file_types.specs.declared.reply.Attributes.{Attributes}
use Rattle.journal_file_types.specs.declared.status.Status.{Status}
use Rattle.journal_filestore.specs.declared.find.Target.{Target}
use Rattle.journal_filestore.specs.declared.find.Target.TheVariants.{Gone, Directory, Regular}
use Rattle.journal_filestore.specs.Files.{FileData, Files, is_file_number, with_entry, files_of}
use Rattle.journal_filestore.specs.Operations.{FileTarget, Outcome, file_target, attributes, attributes_of_node, changed}
use Rattle.journal_filestore.specs.Operations.FileTarget.{gone, root, file}
use Rattle.journal_filestore.specs.Handles.{data_of, IsAt}
use Rattle.journal_filestore.specs.Doing.{LearnsThat, Puts, Makes, Does}
use Rattle.journal_filestore.proofs.Doings.{Tells-both, Does-told, Does-made}
use Rattle.journal_filestore.proofs.FilesReplaced.{IsFileNumber-test}
use Rattle.journal_filestore.proofs.Finding.{case-gone, case-directory, case-regular, IsAt-is, entry_at}

-- the attributes of a sound file
pub attributes-data : {version : FormatVersion} (m : Map) (i : ℕ) (f : FileNode) → IsSoundFile version m f → attributes i (data_of version m f) ≡ attributes_of_node i f
attributes-data {version} m i f sound = ap (λ n. record { number = i; size = n; mtime = f.mtime }) sound.whole

-- the root is at no file's number
pub not_root : (k : ℕ) (t : Time) → 2 ≤ k → IsInPlace k (Root t) → ⊥
not_root zero t from placed = omega arith
not_root (suc zero) t from placed = omega arith
not_root (suc (suc k)) t from placed = placed

pub no_root : {version : FormatVersion} (m : Map) (j : ℕ) (t : Time) → HasSoundFiles version m → is_file_number j ≡ true → node_at m j ≡ Root t → ⊥
no_root {version} m j t sound number is =
    not_root j t (IsFileNumber-test j number).from (subst (IsInPlace j) is (sound.placed j (IsFileNumber-test j number).to))

module _ {A : Type 0} {version : FormatVersion} (layout : Shape) (k : Files → FileTarget → Outcome A) (i generation : ℕ) (p : Target) (t0 t1 : TxnState) (fresh : t0.writes ≡ []) (found : LearnsThat version layout t0 t1 (λ m. IsAt version i generation m p)) where
  abbrev pub case_of : Files → Result A Status → Files → Type 0
  case_of F r F2 = (r, F2) ≡ k F (file_target F i generation)

  pub Does-gone : (answer : Result A Status) → p ≡ Gone → ((F : Files) → k F gone ≡ (answer, F)) → Does version layout case_of t1.reads t1.writes answer
  Does-gone answer is shows =
      Does-told layout case_of t0 t1 answer _ fresh found (λ m sound at. sym (case-gone version (k (files_of version m)) m i generation p is at ∙ shows (files_of version m)))

  pub Does-directory : (answer : Result A Status) (t : Time) → p ≡ Directory t → ((F : Files) → F.root ≡ t → k F root ≡ (answer, F)) → Does version layout case_of t1.reads t1.writes answer
  Does-directory answer t is shows =
      Does-told layout case_of t0 t1 answer _ fresh found
      (λ m sound at. sym (case-directory version (k (files_of version m)) m i generation p t is at ∙ shows (files_of version m) (IsAt-is version m i generation p (Directory t) is at).1))

  pub Does-regular : (answer : Result A Status) (f : FileNode) → p ≡ Regular f
      → ((m : Map) → IsSoundFile version m f → k (files_of version m) (file i (data_of version m f)) ≡ (answer, files_of version m)) → Does version layout case_of t1.reads t1.writes answer
  Does-regular answer f is shows =
      Does-told layout case_of t0 t1 answer _ fresh found
      (λ m sound at.
      let here : IsAt version i generation m (Regular f) = IsAt-is version m i generation p (Regular f) is at in
      sym (case-regular version (k (files_of version m)) m i generation p f is at ∙ shows m (sound.files i f (IsFileNumber-test i here.2).to here.1)))

  -- the file is changed, or its block read
  pub Does-changed : (answer : Result A Status) (f : FileNode) (t2 : TxnState) (Q : Map → Map → Type 0) → p ≡ Regular f → Makes version layout t1 t2 Q
      → ((m n : Map) → HasSoundFiles version m → IsSoundFile version m f → is_file_number i ≡ true → node_at m i ≡ File f → Q m n
      → HasSoundFiles version n × ((answer, files_of version n) ≡ k (files_of version m) (file i (data_of version m f))))
      → Does version layout case_of t2.reads t2.writes answer
  Does-changed answer f t2 Q is made shows =
      Does-made layout case_of t0 t1 t2 answer _ Q found made
      (λ m n sound at q.
      let here : IsAt version i generation m (Regular f) = IsAt-is version m i generation p (Regular f) is at in
      let both = shows m n sound (sound.files i f (IsFileNumber-test i here.2).to here.1) here.2 here.1 q in
      (both.0, both.1 ∙ sym (case-regular version (k (files_of version m)) m i generation p f is at)))

  -- in the root, an inode was read
  pub Does-in_root : (answer : Result A Status) (t : Time) (j : ℕ) (n : Node) (t2 : TxnState) → p ≡ Directory t → LearnsThat version layout t1 t2 (λ m. node_at m j ≡ n)
      → ((m : Map) → HasSoundFiles version m → (files_of version m).root ≡ t → node_at m j ≡ n → k (files_of version m) root ≡ (answer, files_of version m)) → Does version layout case_of t2.reads t2.writes answer
  Does-in_root answer t j n t2 is read shows =
      Does-told layout case_of t0 t2 answer _ fresh (Tells-both layout t0 t1 t2 _ _ found read)
      (λ m sound told. sym (case-directory version (k (files_of version m)) m i generation p t is told.0 ∙ shows m sound (IsAt-is version m i generation p (Directory t) is told.0).1 told.1))

  -- in the root, an inode was read, and then something made
  pub Does-made_in_root : (answer : Result A Status) (t : Time) (j : ℕ) (n : Node) (t2 t3 : TxnState) (Q : Map → Map → Type 0) → p ≡ Directory t → LearnsThat version layout t1 t2 (λ m. node_at m j ≡ n) → Makes version layout t2 t3 Q
      → ((m after : Map) → HasSoundFiles version m → (files_of version m).root ≡ t → node_at m j ≡ n → Q m after → HasSoundFiles version after × ((answer, files_of version after) ≡ k (files_of version m) root))
      → Does version layout case_of t3.reads t3.writes answer
  Does-made_in_root answer t j n t2 t3 Q is read made shows =
      Does-made layout case_of t0 t2 t3 answer _ Q (Tells-both layout t0 t1 t2 _ _ found read) made
      (λ m after sound told q.
      let both = shows m after sound (IsAt-is version m i generation p (Directory t) is told.0).1 told.1 q in
      (both.0, both.1 ∙ sym (case-directory version (k (files_of version m)) m i generation p t is told.0)))

-- A file that was changed
pub changed-puts : {version : FormatVersion} (m n : Map) (i : ℕ) (f : FileNode) (d : FileData) (before after : Attributes) → IsSoundFile version m f → is_file_number i ≡ true → node_at m i ≡ File f
    → before ≡ attributes_of_node i f → after ≡ attributes i d → Puts version m n i (record { generation = f.generation; file = Some d })
    → (Ok (record { before = before; after = after }), files_of version n) ≡ changed (files_of version m) i (data_of version m f) d
changed-puts {version} m n i f d before after sound number is was will puts =
    ap (λ x. (Ok (record { before = x; after = after }), files_of version n)) (was ∙ sym (attributes-data m i f sound))
    ∙ ap (λ x. (Ok (record { before = attributes i (data_of version m f); after = x }), files_of version n)) will
    ∙ ap (λ x. (Ok (record { before = attributes i (data_of version m f); after = attributes i d }), x)) puts.files
    ∙ ap (λ x. (Ok (record { before = attributes i (data_of version m f); after = attributes i d }), with_entry (files_of version m) i (record { generation = x; file = Some d })))
    (sym (ap (λ e. e.generation) (entry_at version m i (File f) number is)))
