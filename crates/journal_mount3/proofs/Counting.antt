-- What the files use is counted: LOOKUPs one after another.
use Rattle.std.proofs.Common.{◌≡◌, ◌≢◌, ℕ, ◌+◌, ◌-◌, ◌*◌, ◌≤◌, List, [], ◌∷◌, ◌++◌, length, Result, Ok, Err, refl, sym, ap, subst, ◌∙◌, arith, length-append}
use Rattle.std.proofs.lemmas.List.{append-nil}
use Rattle.journal_world.specs.declared.layout.TheConstants.{BLOCK_BYTES, FIRST_DATA}
use Rattle.journal_history.specs.Tokens.{SessionState}
use Rattle.journal_inode.specs.declared.version.FormatVersion.{FormatVersion}
use Rattle.journal_inode.specs.declared.version.FormatVersion.TheVariants.{One, Two}
use Rattle.journal_file_types.specs.declared.reply.Attributes.{Attributes}
use Rattle.journal_file_types.specs.declared.reply.Found.{Found}
use Rattle.journal_nfs3_wire.specs.declared.results.NfsError.{NfsError}
use Rattle.journal_nfs3_wire.specs.declared.results.NfsError.TheVariants.{NoEntry}
use Rattle.journal_nfs3_wire.specs.Profile.{used_bytes}
use Rattle.journal_mount3.specs.declared.results.SpaceUse.{SpaceUse}
use Rattle.journal_mount3.specs.Listings.{LooksUp, LooksAllUp, AreKnown, Listed, found_among, IsCutShort}
use Rattle.journal_mount3.specs.Served.{used_by, FindsAll, Measures}
use Rattle.journal_mount3.specs.CodeViews.{status_seen}
use Rattle.journal_mount3.proofs.Filling.{looks_behind, known_behind, found_behind}

-- the blocks of a file have at most 49152 bytes
pub used_small : (version : FormatVersion) (size : ℕ) → used_bytes version size ≤ 49152
used_small One size = omega arith
used_small Two size = omega arith

used_append : (version : FormatVersion) (es : List Listed) (e : Listed) → used_by version (es ++ e ∷ []) ≡ used_by version es + used_bytes version e.attributes.size
used_append version [] e = omega arith
used_append version (x ∷ xs) e = let rest = used_append version xs e in omega (arith, rest)

-- What is known before the file of a number is looked up
pub record Counting (version : FormatVersion) (old now : SessionState) (number files used : ℕ) : Type 0 where
  pub told : List (Result Found NfsError)
  pub count : length told + 2 ≡ number
  pub looked : LooksAllUp version 2 told old now
  pub known : AreKnown told
  pub files_are : files ≡ length (found_among 2 told)
  pub used_is : used ≡ used_by version (found_among 2 told)
  pub few : files + 2 ≤ number
  pub small : used ≤ 49152 * files

pub counts_none : (version : FormatVersion) (s : SessionState) → Counting version s s 2 0 0
counts_none version s = record { told = []; count = refl; looked = refl; known = tt; files_are = refl; used_is = refl; few = omega arith; small = omega arith }

module _ (version : FormatVersion) (old now : SessionState) (number files used : ℕ) (c : Counting version old now number files used) where
  here : 2 + length c.told ≡ number
  here = omega (arith, c.count)

  looked_then : (new : SessionState) (t : Result Found NfsError) → LooksUp version number now new t → LooksAllUp version 2 (c.told ++ t ∷ []) old new
  looked_then new t l = looks_behind version 2 c.told t old now new c.looked (subst (λ (n : ℕ). LooksUp version n now new t) (sym here) l)

  counted_then : (t : Result Found NfsError) → length (c.told ++ t ∷ []) + 2 ≡ number + 1
  counted_then t = let long : length (c.told ++ t ∷ []) ≡ length c.told + 1 = length-append c.told (t ∷ []) in omega (arith, long, c.count)

  pub counts_no_file : (new : SessionState) → LooksUp version number now new (Err NoEntry) → Counting version old new (number + 1) files used
  counts_no_file new l =
      let same : found_among 2 (c.told ++ Err NoEntry ∷ []) ≡ found_among 2 c.told = found_behind 2 c.told (Err NoEntry) ∙ append-nil (found_among 2 c.told) in
      record {
        told = c.told ++ Err NoEntry ∷ [];
        count = counted_then (Err NoEntry);
        looked = looked_then new (Err NoEntry) l;
        known = known_behind c.told (Err NoEntry) c.known refl;
        files_are = c.files_are ∙ ap length (sym same);
        used_is = c.used_is ∙ ap (used_by version) (sym same);
        few = omega (arith, c.few);
        small = c.small;
      }

  abbrev listed : Found → Listed
  listed f = record { cookie = 2 + length c.told + 1; generation = f.generation; attributes = f.file }

  pub counts_file : (new : SessionState) (f : Found) → LooksUp version number now new (Ok f) → Counting version old new (number + 1) (files + 1) (used + used_bytes version f.file.size)
  counts_file new f l =
      let same : found_among 2 (c.told ++ Ok f ∷ []) ≡ found_among 2 c.told ++ listed f ∷ [] = found_behind 2 c.told (Ok f) in
      let long : length (found_among 2 c.told ++ listed f ∷ []) ≡ length (found_among 2 c.told) + 1 = length-append (found_among 2 c.told) (listed f ∷ []) in
      record {
        told = c.told ++ Ok f ∷ [];
        count = counted_then (Ok f);
        looked = looked_then new (Ok f) l;
        known = known_behind c.told (Ok f) c.known tt;
        files_are = ap (λ (n : ℕ). n + 1) c.files_are ∙ sym long ∙ ap length (sym same);
        used_is = ap (λ (n : ℕ). n + used_bytes version f.file.size) c.used_is ∙ sym (used_append version (found_among 2 c.told) (listed f)) ∙ ap (used_by version) (sym same);
        few = omega (arith, c.few);
        small = omega (arith, c.small, used_small version f.file.size);
      }

  pub cut_count : (new : SessionState) (why : NfsError) → LooksUp version number now new (Err why) → why ≢ NoEntry → IsCutShort version 2 old new why
  cut_count new why l other = record { told = c.told; mid = now; looked = c.looked; refused = subst (λ (n : ℕ). LooksUp version n now new (Err why)) (sym here) l; other = other }

pub counts_all : (version : FormatVersion) (old now : SessionState) (number files used : ℕ) → number ≡ 512 → Counting version old now number files used → FindsAll version old now files used
counts_all version old now number files used last c = record { found = c.told; all = omega (arith, c.count, last); looked = c.looked; known = c.known; files_are = c.files_are; used_is = c.used_is }

pub measured : (version : FormatVersion) (blocks : ℕ) (old now : SessionState) (a : Attributes) (space : SpaceUse) → FindsAll version old now space.files space.used
    → space.attributes ≡ a → space.bytes ≡ BLOCK_BYTES * (blocks - FIRST_DATA) → Measures version blocks old now a (status_seen version space)
measured version blocks old now a space c same total = record {
  found = c.found;
  all = c.all;
  looked = c.looked;
  known = c.known;
  is = rw (c.files_are, c.used_is, same, total) refl;
}
