-- What is seen of a directory.
use Rattle.std.proofs.Common.{◌≡◌, ◌≢◌, ◌⊎◌, ℕ, ◌≤◌, Bool, true, false, List, [], ◌∷◌, length, arith, true≢false, map, Option, Some, None, Result, Ok, Err, refl, sym, subst, ◌∙◌, inl, inr}
use Rattle.std.specs.Prelude.{◌==◌, MatchBool}
use Rattle.std.proofs.lemmas.Bool.{ne_eqb, eq-eqb, eqb-true}
use Rattle.journal_history.specs.Tokens.{SessionState}
use Rattle.journal_inode.specs.declared.node.Time.{Time}
use Rattle.journal_inode.specs.declared.version.FormatVersion.{FormatVersion}
use Rattle.journal_file_types.specs.declared.reply.Attributes.{Attributes}
use Rattle.journal_nfs3_wire.specs.declared.results.NfsError.{NfsError}
use Rattle.journal_nfs3_wire.specs.declared.results.NfsError.TheVariants.{NotDirectory, TooSmall, ServerFault}
use Rattle.journal_mount3.specs.Listings.{Listed, first_number, IsPage, IsCutShort, Seen, SeesPage}
use Rattle.journal_mount3.specs.Roots.{attributes_at}
use Rattle.journal_mount3.specs.Served.{TellsOf, TellsThen, Lists}
use Rattle.journal_mount3.specs.CodeViews.{HasRoom}
use Rattle.journal_mount3.proofs.Filling.{no_memory_cut}

module _ (version : FormatVersion) (now : Time) (cookie : ℕ) (a : Attributes) (old new : SessionState) where
  abbrev Other : Result Seen NfsError → Type 0
  Other outcome = (new ≡ old) × (outcome ≡ Err NotDirectory)

  -- a file is no directory
  pub lists_file : (Fits : List Listed → Type 0) → a.number ≢ 1 → new ≡ old → Lists version now cookie Fits (Ok a) old new (Err NotDirectory)
  lists_file Fits other same =
      subst (λ (b : Bool). MatchBool b (SeesPage version cookie Fits (attributes_at now a) old new (Err NotDirectory)) (Other (Err NotDirectory))) (sym (ne_eqb a.number 1 other)) (same, refl)

  pub lists_root : (Fits : List Listed → Type 0) (outcome : Result Seen NfsError) → a.number ≡ 1 → SeesPage version cookie Fits (attributes_at now a) old new outcome → Lists version now cookie Fits (Ok a) old new outcome
  lists_root Fits outcome is h = subst (λ (b : Bool). MatchBool b (SeesPage version cookie Fits (attributes_at now a) old new outcome) (Other outcome)) (sym (eq-eqb a.number 1 is)) h

module _ (version : FormatVersion) (cookie : ℕ) (root : Attributes) (old new : SessionState) where
  pub sees_none : new ≡ old → SeesPage version cookie (HasRoom None) root old new (Err TooSmall)
  sees_none same = inl (refl, (λ h. h), same)

  pub sees_cut : (room : ℕ) (why : NfsError) → IsCutShort version (first_number cookie) old new why → SeesPage version cookie (HasRoom (Some room)) root old new (Err why)
  sees_cut room why h = inr (inr h)

  pub sees_no_memory : (room : ℕ) → new ≡ old → SeesPage version cookie (HasRoom (Some room)) root old new (Err ServerFault)
  sees_no_memory room same = inr (inr (no_memory_cut version (first_number cookie) [] old new same))

  pub sees_small : (room : ℕ) (page : List Listed) (is_end : Bool) → page ≡ [] → is_end ≡ false → IsPage version cookie (λ es. length es ≤ room) root old new page is_end → SeesPage version cookie (HasRoom (Some room)) root old new (Err TooSmall)
  sees_small room page is_end none more h =
      inr (inl (refl, subst (λ (b : Bool). IsPage version cookie (λ es. length es ≤ room) root old new [] b) more (subst (λ (p : List Listed). IsPage version cookie (λ es. length es ≤ room) root old new p is_end) none h)))

  pub sees_page : (room : ℕ) (seen : Seen) → IsPage version cookie (λ es. length es ≤ room) root old new seen.page seen.is_end → (seen.is_end ≡ false → seen.page ≢ []) → SeesPage version cookie (HasRoom (Some room)) root old new (Ok seen)
  sees_page room seen h some = (h, some)

-- ---- a page without entries

none_shown_of : {E : Type 0} (view : E → Listed) (items : List E) → length items ≡ 0 → map view items ≡ []
none_shown_of view [] none = refl
none_shown_of view (x ∷ xs) none = absurd (omega (arith, none))

pub none_shown : {E : Type 0} (view : E → Listed) (items : List E) (n : ℕ) (empty : Bool) → n ≡ length items → empty ≡ (n == 0) → empty ≡ true → map view items ≡ []
none_shown view items n empty long is e = none_shown_of view items (sym long ∙ eqb-true n 0 (sym is ∙ e))

some_shown : {E : Type 0} (view : E → Listed) (items : List E) (n : ℕ) → n ≡ length items → (n == 0) ≡ false → map view items ≢ []
some_shown view [] n long other = let zero_is : (n == 0) ≡ true = eq-eqb n 0 long in absurd (true≢false (sym zero_is ∙ other))
some_shown view (x ∷ xs) n long other = λ same. cc

-- a page that is not the end has entries, where it is the end or has some
pub page_there : {E : Type 0} (view : E → Listed) (items : List E) (n : ℕ) (empty is_end : Bool) → n ≡ length items → empty ≡ (n == 0) → ((empty ≡ true) × (is_end ≡ true)) ⊎ (empty ≡ false) → is_end ≡ false → map view items ≢ []
page_there view items n empty is_end long is (inl h) more = absurd (true≢false (sym h.1 ∙ more))
page_there view items n empty is_end long is (inr h) more = some_shown view items n long (sym is ∙ h)

-- ---- a listing of what a handle names

-- it names no directory
pub list_of_file : (version : FormatVersion) (now : Time) (cookie : ℕ) (handle : List ℕ) (a : Attributes) (old mid new : SessionState) (Fits : List Listed → Type 0) → TellsOf version handle old mid (Ok a) → a.number ≢ 1 → new ≡ mid
    → TellsThen version handle old (λ told m. Lists version now cookie Fits told m new (Err NotDirectory))
list_of_file version now cookie handle a old mid new Fits told other same = (Ok a, mid, told, lists_file version now cookie a mid new Fits other same)

module _ (version : FormatVersion) (now : Time) (cookie : ℕ) (handle : List ℕ) (a root : Attributes) (old mid new : SessionState) (given : Option ℕ) (told : TellsOf version handle old mid (Ok a)) (is : a.number ≡ 1) (then_is : root ≡ attributes_at now a) where
  abbrev ListsSo : Result Seen NfsError → Type 0
  ListsSo outcome = TellsThen version handle old (λ told m. Lists version now cookie (HasRoom given) told m new outcome)

  list_of_root : (outcome : Result Seen NfsError) → SeesPage version cookie (HasRoom given) root mid new outcome → ListsSo outcome
  list_of_root outcome h =
      (Ok a, mid, told, lists_root version now cookie a mid new (HasRoom given) outcome is (subst (λ (r : Attributes). SeesPage version cookie (HasRoom given) r mid new outcome) then_is h))

  -- there is no room for even a page without entries
  pub list_none : given ≡ None → new ≡ mid → ListsSo (Err TooSmall)
  list_none none same =
      list_of_root (Err TooSmall) (subst (λ (g : Option ℕ). SeesPage version cookie (HasRoom g) root mid new (Err TooSmall)) (sym none) (sees_none version cookie root mid new same))

  module _ (room : ℕ) (some : given ≡ Some room) where
    with_room : (outcome : Result Seen NfsError) → SeesPage version cookie (HasRoom (Some room)) root mid new outcome → ListsSo outcome
    with_room outcome h = list_of_root outcome (subst (λ (g : Option ℕ). SeesPage version cookie (HasRoom g) root mid new outcome) (sym some) h)

    pub list_no_memory : new ≡ mid → ListsSo (Err ServerFault)
    list_no_memory same = with_room (Err ServerFault) (sees_no_memory version cookie root mid new room same)

    pub list_cut : (why : NfsError) → IsCutShort version (first_number cookie) mid new why → ListsSo (Err why)
    list_cut why h = with_room (Err why) (sees_cut version cookie root mid new room why h)

    pub list_small : (page : List Listed) (is_end : Bool) → page ≡ [] → is_end ≡ false → IsPage version cookie (λ es. length es ≤ room) root mid new page is_end → ListsSo (Err TooSmall)
    list_small page is_end none more h = with_room (Err TooSmall) (sees_small version cookie root mid new room page is_end none more h)

    pub list_page : (seen : Seen) → IsPage version cookie (λ es. length es ≤ room) root mid new seen.page seen.is_end → (seen.is_end ≡ false → seen.page ≢ []) → ListsSo (Ok seen)
    list_page seen h some_page = with_room (Ok seen) (sees_page version cookie root mid new room seen h some_page)
