-- version inode of a sound map is replaced: what becomes of the files.
use Rattle.std.proofs.Common.{ℕ, ◌≡◌, ◌<◌, ◌≤◌, ◌⊎◌, inl, inr, Bool, true, false, cond, ◌==◌, Some, take, refl, sym, ap, ◌∙◌, arith, lit<, nat_lt, nat_le}
use Rattle.std.proofs.Math.Path.{fun_ext}
use Rattle.std.proofs.lemmas.Bool.{cases_eq, and_parts, ltb-true, leb-true, eq-eqb, ne_eqb}
use Rattle.journal_world.specs.Maps.{Map}
use Rattle.journal_inode.specs.declared.version.FormatVersion.{FormatVersion}
use Rattle.journal_inode.specs.declared.node.FileNode.{FileNode}
use Rattle.journal_inode.specs.declared.node.Node.{Node}
use Rattle.journal_inode.specs.declared.node.Node.TheVariants.{Free, Root, File}
use Rattle.journal_inode.specs.declared.place.TheConstants.{INODES}
use Rattle.journal_inode.specs.Sound.{node_at, stored, HasSoundFiles}
use Rattle.journal_filestore.proofs.Replacing.{Replaces, node_at-replaced, node_at-other, stored-other}
use Rattle.journal_filestore.specs.Files.{is_file_number, no_entry, with_entry, entry_of, root_time, files_of}

-- the numbers of files
pub record IsFileNumber (i : ℕ) : Type 0 where
  pub from : 2 ≤ i
  pub to : i < INODES

pub IsFileNumber-test : (i : ℕ) → is_file_number i ≡ true → IsFileNumber i
IsFileNumber-test i is =
    let parts = and_parts (nat_le 2 i) (nat_lt i INODES) is in
    record { from = leb-true 2 i parts.0; to = ltb-true i INODES parts.1 }

module _ (version : FormatVersion) where
  entry_of-same : (m n : Map) (x : Node) → ((f : FileNode) → x ≡ File f → stored version n f ≡ stored version m f) → entry_of version n x ≡ entry_of version m x
  entry_of-same m n (File f) same = ap (λ s. record { generation = f.generation; file = Some (record { bytes = take f.size s; mtime = f.mtime }) }) (same f refl)
  entry_of-same m n (Free g) same = refl
  entry_of-same m n (Root t) same = refl

  -- the files are those of before with this one replaced
  pub files_of-replaced : (m n : Map) (i : ℕ) (new : Node) → is_file_number i ≡ true → HasSoundFiles version m → Replaces version m n i new
      → files_of version n ≡ with_entry (files_of version m) i (entry_of version n new)
  unfolding files_of
  files_of-replaced m n i new file_number sound r =
      ap (λ t. record { root = t; at = λ j. cond (is_file_number j) (entry_of version n (node_at n j)) no_entry }) (ap root_time (node_at-other version m n i new r 1 (lit< tt) (λ is. absurd (omega (arith, number.from, is)))))
      ∙ ap (λ F. record { root = root_time (node_at m 1); at = F }) (fun_ext (λ j. by_number j (cases_eq j i)))
    where
      number : IsFileNumber i
      number = IsFileNumber-test i file_number

      by_range : (j : ℕ) → (j ≡ i → ⊥) → (b : Bool) → is_file_number j ≡ b
          → cond b (entry_of version n (node_at n j)) no_entry ≡ cond b (entry_of version m (node_at m j)) no_entry
      by_range j ne false is = refl
      by_range j ne true is =
          let below = (IsFileNumber-test j is).to in
          ap (entry_of version n) (node_at-other version m n i new r j below ne)
          ∙ entry_of-same m n (node_at m j) (λ f is_file. stored-other version m n i new number.to sound r j f below ne is_file)

      by_number : (j : ℕ) → (j ≡ i) ⊎ (j ≡ i → ⊥)
          → cond (is_file_number j) (entry_of version n (node_at n j)) no_entry
          ≡ cond (j == i) (entry_of version n new) (cond (is_file_number j) (entry_of version m (node_at m j)) no_entry)
      by_number j (inl is) =
          ap (λ b. cond b (entry_of version n (node_at n j)) no_entry) (ap is_file_number is ∙ file_number)
          ∙ ap (entry_of version n) (ap (node_at n) is ∙ node_at-replaced version m n i new r)
          ∙ sym (ap (λ b. cond b (entry_of version n new) (cond (is_file_number j) (entry_of version m (node_at m j)) no_entry)) (eq-eqb j i is))
      by_number j (inr ne) =
          by_range j ne (is_file_number j) refl
          ∙ sym (ap (λ b. cond b (entry_of version n new) (cond (is_file_number j) (entry_of version m (node_at m j)) no_entry)) (ne_eqb j i ne))
