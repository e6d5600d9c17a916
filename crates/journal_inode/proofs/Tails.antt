-- The bytes after a file's size.
use Rattle.std.proofs.Common.{ℕ, zero, suc, ◌≡◌, ◌<◌, ◌≤◌, ◌-◌, List, [], ◌∷◌, ◌++◌, length, take, drop, replicate, refl, sym, ap, subst, ◌∙◌, arith, lit≤}
use Rattle.std.proofs.lemmas.List.{length-drop, take-append-drop, take_at, drop_at}
use Rattle.std.proofs.lemmas.List.Elements.{All-head, All-tail, All-nil, All-cons}
use Rattle.std.specs.Prelude.{◌↔◌, Bool, IsTrue}
use Rattle.std.proofs.lemmas.Bool.Decides.{nat_tests}
use Rattle.journal_world.specs.declared.layout.TheConstants.{BLOCK_BYTES, FIRST_DATA}
use Rattle.journal_world.specs.Addresses.{Shape}
use Rattle.journal_world.specs.Files.{files}
use Rattle.journal_world.specs.Maps.{is_object}
use Rattle.journal_inode.specs.declared.version.FormatVersion.{FormatVersion}
use Rattle.journal_inode.specs.Places.{addr_of, HasFiles}
use Rattle.journal_inode.specs.Places.Object.{block}
use Rattle.journal_inode.specs.Sound.{superblock_head, superblock_of}
use Rattle.journal_inode.specs.Admitting.{AllZero}

-- so many zeros
abbrev pub zeros : ℕ → List ℕ
zeros n = replicate n 0

pub zeros-AllZero : (xs : List ℕ) → AllZero xs → xs ≡ zeros (length xs)
zeros-AllZero [] all = refl
zeros-AllZero (x ∷ xs) all =
    ap (λ y. y ∷ xs) (All-head (λ (y : ℕ). y ≡ 0) x xs all) ∙ ap (λ ys. 0 ∷ ys) (zeros-AllZero xs (All-tail (λ (y : ℕ). y ≡ 0) x xs all))

pub AllZero-zeros : (n : ℕ) → AllZero (zeros n)
AllZero-zeros zero = All-nil (λ (y : ℕ). y ≡ 0)
AllZero-zeros (suc n) = All-cons (λ (y : ℕ). y ≡ 0) 0 (zeros n) refl (AllZero-zeros n)

pub padded-AllZero : (v : List ℕ) (k s : ℕ) → length v ≡ k → s ≤ k → AllZero (drop s v) → v ≡ take s v ++ zeros (k - s)
padded-AllZero v k s whole small all =
    sym (take-append-drop s v)
    ∙ ap (λ ys. take s v ++ ys) (zeros-AllZero (drop s v) all)
    ∙ ap (λ n. take s v ++ zeros n) (length-drop s v ∙ ap (λ n. n - s) whole)

pub AllZero-padded : (v : List ℕ) (n s : ℕ) → length (take s v) ≡ s → v ≡ take s v ++ zeros n → AllZero (drop s v)
AllZero-padded v n s whole padded =
    subst AllZero (sym (ap (drop s) padded ∙ drop_at (take s v) (zeros n) s whole)) (AllZero-zeros n)

-- a data block's value has 4096 bytes
pub in_files : (blocks b : ℕ) (v : List ℕ) → FIRST_DATA ≤ b → b < blocks → IsTrue (is_object (files blocks) (addr_of (block b), v)) → length v ≡ BLOCK_BYTES
in_files blocks b v from to is = grind (arith, nat_tests)

-- a data block's value has 4096 bytes
pub length-block : (layout : Shape) (b : ℕ) (v : List ℕ) → HasFiles layout → FIRST_DATA ≤ b → b < layout.blocks → IsTrue (is_object layout (addr_of (block b), v))
    → length v ≡ BLOCK_BYTES
length-block layout b v has from to is = in_files layout.blocks b v from to (subst (λ (s : Shape). IsTrue (is_object s (addr_of (block b), v))) has.0 is)

length-front : (version : FormatVersion) (blocks : ℕ) → length (superblock_head version blocks) ≡ 24
unfolding superblock_head
length-front version blocks = refl

-- the bytes of the superblock begin with its front
pub superblock_begins : (bytes : List ℕ) (version : FormatVersion) (blocks : ℕ) → bytes ≡ superblock_of version blocks → take 24 bytes ≡ superblock_head version blocks
unfolding superblock_of
superblock_begins bytes version blocks is = ap (take 24) is ∙ take_at (superblock_head version blocks) _ 24 (length-front version blocks)

-- with that front, they are the superblock's where the rest is zero
pub superblock_decides : (bytes tail : List ℕ) (version : FormatVersion) (blocks : ℕ) (b : Bool) → length bytes ≡ 4096 → take 24 bytes ≡ superblock_head version blocks → tail ≡ drop 24 bytes → (IsTrue b ↔ AllZero tail) → IsTrue b ↔ (bytes ≡ superblock_of version blocks)
unfolding superblock_of
superblock_decides bytes tail version blocks b whole front is_tail decides = (
  (λ is. padded-AllZero bytes 4096 24 whole (lit≤ tt) (subst AllZero is_tail (decides.0 is)) ∙ ap (λ x. x ++ zeros (4096 - 24)) front),
  (λ is. decides.1 (subst AllZero (sym is_tail)
      (AllZero-padded bytes (4096 - 24) 24 (ap length front ∙ length-front version blocks) (is ∙ ap (λ x. x ++ zeros (4096 - 24)) (sym front))))),
)
