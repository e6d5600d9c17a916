-- A page is filled: LOOKUPs one after another, and what they make known.
use Rattle.std.proofs.Common.{◌≡◌, ◌≢◌, ℕ, zero, suc, ◌+◌, ◌-◌, ◌≤◌, ◌<◌, min, max, Bool, true, false, List, [], ◌∷◌, ◌++◌, length, map, drop, Option, Some, None, Result, Ok, Err, refl, sym, ap, subst, ◌∙◌, append_assoc, arith, inl, inr, length-append}
use Rattle.std.specs.Prelude.{nat_le, IsTrue, ◌↔◌, ◌⊎◌}
use Rattle.std.proofs.lemmas.List.{append-nil, map-append}
use Rattle.std.proofs.lemmas.Bool.{leb-true, le-leb, leb-false}
use mathlib.Core.List.{IsPrefix}
use Rattle.journal_world.specs.declared.refusal.Refusal.{Refusal}
use Rattle.journal_world.specs.declared.refusal.Refusal.TheVariants.{NoMemory}
use Rattle.journal_history.specs.Tokens.{SessionState, OnlyExtends}
use Rattle.journal_memory.specs.Causes.{CauseState}
use Rattle.journal_inode.specs.declared.version.FormatVersion.{FormatVersion}
use Rattle.journal_file_types.specs.declared.fault.Fault.TheVariants.{Refused}
use Rattle.journal_file_types.specs.declared.reply.Attributes.{Attributes}
use Rattle.journal_file_types.specs.declared.reply.Found.{Found}
use Rattle.journal_nfs3_wire.specs.declared.results.NfsError.{NfsError}
use Rattle.journal_nfs3_wire.specs.declared.results.NfsError.TheVariants.{NoEntry, ServerFault}
use Rattle.journal_mount3.proofs.Finding.{dot_found, file_found}
use Rattle.journal_mount3.specs.Listings.{LooksUp, LooksAllUp, IsKnown, AreKnown, Listed, dots, with_found, found_among, first_number, IsLongestFront, IsPage, IsCutShort, Finds}

-- ---- one LOOKUP more

pub looks_behind : (version : FormatVersion) (first : ℕ) (ts : List (Result Found NfsError)) (t : Result Found NfsError) (old mid new : SessionState)
    → LooksAllUp version first ts old mid → LooksUp version (first + length ts) mid new t → LooksAllUp version first (ts ++ t ∷ []) old new
looks_behind version first [] t old mid new h l =
    let here : first + 0 ≡ first = omega arith in
    (new, subst (λ (s : SessionState). LooksUp version first s new t) h (subst (λ (n : ℕ). LooksUp version n mid new t) here l), refl)
looks_behind version first (u ∷ us) t old mid new h l =
    let here : first + suc (length us) ≡ suc first + length us = omega arith in
    (h.0, h.1, looks_behind version (suc first) us t h.0 mid new h.2 (subst (λ (n : ℕ). LooksUp version n mid new t) here l))

pub known_behind : (ts : List (Result Found NfsError)) (t : Result Found NfsError) → AreKnown ts → IsKnown t → AreKnown (ts ++ t ∷ [])
known_behind [] t h k = (k, tt)
known_behind (u ∷ us) t h k = (h.0, known_behind us t h.1 k)

found_with : (n : ℕ) (u : Result Found NfsError) (xs ys : List Listed) → with_found n u (xs ++ ys) ≡ with_found n u xs ++ ys
found_with n (Ok f) xs ys = refl
found_with n (Err why) xs ys = refl

pub found_behind : (first : ℕ) (ts : List (Result Found NfsError)) (t : Result Found NfsError) → found_among first (ts ++ t ∷ []) ≡ found_among first ts ++ with_found (first + length ts) t []
found_behind first [] t =
    let here : first ≡ first + 0 = omega arith in
    ap (λ (n : ℕ). with_found n t []) here
found_behind first (u ∷ us) t =
    let here : suc first + length us ≡ first + suc (length us) = omega arith in
    ap (with_found first u) (found_behind (suc first) us t ∙ ap (λ (n : ℕ). found_among (suc first) us ++ with_found n t []) here)
    ∙ found_with first u (found_among (suc first) us) (with_found (first + suc (length us)) t [])

-- a LOOKUP for which there is no memory
pub no_memory : (version : FormatVersion) (number : ℕ) (s : SessionState) → LooksUp version number s s (Err ServerFault)
no_memory version number s =
    let why : Refusal CauseState = NoMemory in
    let same : OnlyExtends s s = record { number = refl; mine = refl; seen = ([], append-nil s.seen) } in
    (Err (Refused why), (same, refl), refl)

pub no_memory_cut : (version : FormatVersion) (first : ℕ) (ts : List (Result Found NfsError)) (old new : SessionState) → LooksAllUp version first ts old new → IsCutShort version first old new ServerFault
no_memory_cut version first ts old new h = record { told = ts; mid = new; looked = h; refused = no_memory version _ new; other = λ e. absurd cc }

-- ---- the longest front

prefix_length : {E : Type 0} (front all : List E) → IsPrefix front all → length front ≤ length all
prefix_length front all p =
    let whole : length front + length p.0 ≡ length all = sym (length-append front p.0) ∙ ap length p.1 in
    omega (arith, whole)

-- where no more is there, or has room
pub longest : {E : Type 0} (room : ℕ) (page all : List E) → IsPrefix page all → length page ≤ room → (room ≤ length page) ⊎ (page ≡ all) → IsLongestFront (λ es. length es ≤ room) page all
longest room page all p few full = record { is = p; fits = few; most = λ longer q fits. of full longer q fits }
  where
    of : (room ≤ length page) ⊎ (page ≡ all) → (longer : List _) → IsPrefix longer all → length longer ≤ room → length longer ≤ length page
    of (inl no_room) longer q fits = omega (arith, no_room, fits)
    of (inr same) longer q fits =
        let whole = prefix_length longer all q in
        let long : length page ≡ length all = ap length same in
        omega (arith, whole, long)

-- ---- a page that is being filled

-- What is known before the cookie next is looked for: the entries before it, and what the LOOKUPs
-- told
pub record Filling (version : FormatVersion) (cookie : ℕ) (root : Attributes) (room : ℕ) (old now : SessionState) (next : ℕ) (es : List Listed) : Type 0 where
  pub told : List (Result Found NfsError)
  pub looked : LooksAllUp version (first_number cookie) told old now
  pub known : AreKnown told
  pub so_far : es ++ drop (next - 1) (dots root) ≡ drop cookie (dots root) ++ found_among (first_number cookie) told
  pub asked : first_number cookie + length told ≡ max (next - 1) (first_number cookie)
  pub few : length es ≤ room
  pub fewer : length es < next

nat_cases : (a b : ℕ) → (a ≤ b) ⊎ (b < a)
nat_cases a b = of (nat_le a b) refl
  where
    of : (t : Bool) → nat_le a b ≡ t → (a ≤ b) ⊎ (b < a)
    of true e = inl (leb-true a b e)
    of false e = inr (leb-false a b e)

no_dots : (root : Attributes) (n : ℕ) → 2 ≤ n → drop n (dots root) ≡ []
no_dots root zero e = absurd (omega (arith, e))
no_dots root (suc zero) e = absurd (omega (arith, e))
no_dots root (suc (suc n)) e = drop_none n
  where
    drop_none : (k : ℕ) → drop {A = Listed} k [] ≡ []
    drop_none zero = refl
    drop_none (suc k) = refl

module _ (version : FormatVersion) (cookie : ℕ) (root : Attributes) (room : ℕ) where
  abbrev first : ℕ
  first = first_number cookie

  -- nothing is looked up yet
  pub starts : (s : SessionState) (next : ℕ) → (next ≡ cookie + 1) ⊎ ((next ≡ 513) × (512 ≤ cookie)) → Filling version cookie root room s s next []
  starts s next (inl e) = record {
    told = [];
    looked = refl;
    known = tt;
    so_far =
        let here : next - 1 ≡ cookie = omega (arith, e) in
        ap (λ (n : ℕ). drop n (dots root)) here ∙ sym (append-nil (drop cookie (dots root)));
    asked = let a : first ≡ max 2 cookie = refl in omega (arith, e, a);
    few = omega arith;
    fewer = omega (arith, e);
  }
  starts s next (inr e) = record {
    told = [];
    looked = refl;
    known = tt;
    so_far =
        let a : drop (next - 1) (dots root) ≡ [] = no_dots root (next - 1) (omega (arith, e.0)) in
        let b : drop cookie (dots root) ≡ [] = no_dots root cookie (omega (arith, e.1)) in
        a ∙ sym (append-nil (drop cookie (dots root)) ∙ b);
    asked = let a : first ≡ max 2 cookie = refl in omega (arith, e.0, e.1, a);
    few = omega arith;
    fewer = omega (arith, e.0);
  }

  -- the loop begins behind the cookie, or behind the last one
  pub begins : (s : SessionState) (next : ℕ) (es : List Listed) → next ≡ min cookie 512 + 1 → es ≡ [] → Filling version cookie root room s s next es
  begins s next es is none = subst (Filling version cookie root room s s next) (sym none) (starts s next (of (nat_cases cookie 512)))
    where
      of : (cookie ≤ 512) ⊎ (512 < cookie) → (next ≡ cookie + 1) ⊎ ((next ≡ 513) × (512 ≤ cookie))
      of (inl low) = inl (omega (arith, is, low))
      of (inr high) = inr (omega (arith, is, high), omega (arith, high))

  module _ (old now : SessionState) (next : ℕ) (es : List Listed) (above : cookie < next) (f : Filling version cookie root room old now next es) where
    -- the number of the file that is looked up
    here : 2 < next → first + length f.told ≡ next - 1
    here far = let a : first ≡ max 2 cookie = refl in omega (arith, f.asked, far, above, a)

    then_asked : 2 < next → (t : Result Found NfsError) → first + length (f.told ++ t ∷ []) ≡ max next first
    then_asked far t =
        let a : first ≡ max 2 cookie = refl in
        let b : length (f.told ++ t ∷ []) ≡ length f.told + 1 = length-append f.told (t ∷ []) in
        omega (arith, here far, b, far, above, a)

    looked_then : 2 < next → (new : SessionState) (t : Result Found NfsError) → LooksUp version (next - 1) now new t → LooksAllUp version first (f.told ++ t ∷ []) old new
    looked_then far new t l = looks_behind version first f.told t old now new f.looked (subst (λ (n : ℕ). LooksUp version n now new t) (sym (here far)) l)

    -- all that is known then
    all_then : 2 < next → (t : Result Found NfsError) → es ++ with_found (next - 1) t [] ≡ drop cookie (dots root) ++ found_among first (f.told ++ t ∷ [])
    all_then far t =
        let none : drop (next - 1) (dots root) ≡ [] = no_dots root (next - 1) (omega (arith, far)) in
        let before : es ≡ drop cookie (dots root) ++ found_among first f.told = sym (append-nil es) ∙ ap (λ (r : List Listed). es ++ r) (sym none) ∙ f.so_far in
        ap (λ (r : List Listed). r ++ with_found (next - 1) t []) before
        ∙ append_assoc (drop cookie (dots root)) (found_among first f.told) (with_found (next - 1) t [])
        ∙ ap (λ (n : ℕ). drop cookie (dots root) ++ (found_among first f.told ++ with_found n t [])) (sym (here far))
        ∙ ap (λ (r : List Listed). drop cookie (dots root) ++ r) (sym (found_behind first f.told t))

    none_left : 2 < next → (r : List Listed) → r ++ drop (next + 1 - 1) (dots root) ≡ r
    none_left far r = ap (λ (d : List Listed). r ++ d) (no_dots root (next + 1 - 1) (omega (arith, far))) ∙ append-nil r

    -- there is no file
    pub skips : 2 < next → (new : SessionState) → LooksUp version (next - 1) now new (Err NoEntry) → Filling version cookie root room old new (next + 1) es
    skips far new l = record {
      told = f.told ++ Err NoEntry ∷ [];
      looked = looked_then far new (Err NoEntry) l;
      known = known_behind f.told (Err NoEntry) f.known refl;
      so_far = none_left far es ∙ sym (append-nil es) ∙ all_then far (Err NoEntry);
      asked = let same : next + 1 - 1 ≡ next = omega arith in then_asked far (Err NoEntry) ∙ ap (λ (n : ℕ). max n first) (sym same);
      few = f.few;
      fewer = omega (arith, f.fewer);
    }

    abbrev listed : Found → Listed
    listed g = record { cookie = next; generation = g.generation; attributes = g.file }

    listed_is : 2 < next → (g : Found) → with_found (next - 1) (Ok g) [] ≡ listed g ∷ []
    listed_is far g =
        let same : next - 1 + 1 ≡ next = omega (arith, far) in
        ap (λ (n : ℕ). record { cookie = n; generation = g.generation; attributes = g.file } ∷ []) same

    -- a file is added
    pub adds_file : 2 < next → (new : SessionState) (g : Found) → LooksUp version (next - 1) now new (Ok g) → length es < room → Filling version cookie root room old new (next + 1) (es ++ listed g ∷ [])
    adds_file far new g l place = record {
      told = f.told ++ Ok g ∷ [];
      looked = looked_then far new (Ok g) l;
      known = known_behind f.told (Ok g) f.known tt;
      so_far = none_left far (es ++ listed g ∷ []) ∙ ap (λ (r : List Listed). es ++ r) (sym (listed_is far g)) ∙ all_then far (Ok g);
      asked = let same : next + 1 - 1 ≡ next = omega arith in then_asked far (Ok g) ∙ ap (λ (n : ℕ). max n first) (sym same);
      few = let long : length (es ++ listed g ∷ []) ≡ length es + 1 = length-append es (listed g ∷ []) in omega (arith, long, place);
      fewer = let long : length (es ++ listed g ∷ []) ≡ length es + 1 = length-append es (listed g ∷ []) in omega (arith, long, f.fewer);
    }

    abbrev dot : Listed
    dot = record { cookie = next; generation = 1; attributes = root }

    dot_is : next ≤ 2 → drop (next - 1) (dots root) ≡ dot ∷ drop (next + 1 - 1) (dots root)
    dot_is near = of next (omega (arith, above)) near
      where
        of : (n : ℕ) → 1 ≤ n → n ≤ 2 → drop (n - 1) (dots root) ≡ record { cookie = n; generation = 1; attributes = root } ∷ drop (n + 1 - 1) (dots root)
        of zero a b = absurd (omega (arith, a))
        of (suc zero) a b = refl
        of (suc (suc zero)) a b = refl
        of (suc (suc (suc n))) a b = absurd (omega (arith, b))

    -- . or .. is added
    pub adds_dot : next ≤ 2 → length es < room → Filling version cookie root room old now (next + 1) (es ++ dot ∷ [])
    adds_dot near place = record {
      told = f.told;
      looked = f.looked;
      known = f.known;
      so_far =
          append_assoc es (dot ∷ []) (drop (next + 1 - 1) (dots root)) ∙ ap (λ (r : List Listed). es ++ r) (sym (dot_is near)) ∙ f.so_far;
      asked = let a : first ≡ max 2 cookie = refl in let same : next + 1 - 1 ≡ next = omega arith in omega (arith, f.asked, near, a, above, same);
      few = let long : length (es ++ dot ∷ []) ≡ length es + 1 = length-append es (dot ∷ []) in omega (arith, long, place);
      fewer = let long : length (es ++ dot ∷ []) ≡ length es + 1 = length-append es (dot ∷ []) in omega (arith, long, f.fewer);
    }

    -- a LOOKUP was refused
    pub cut_file : 2 < next → (new : SessionState) (why : NfsError) → LooksUp version (next - 1) now new (Err why) → why ≢ NoEntry → IsCutShort version first old new why
    cut_file far new why l other = record { told = f.told; mid = now; looked = f.looked; refused = subst (λ (n : ℕ). LooksUp version n now new (Err why)) (sym (here far)) l; other = other }

    pub cut_after : 2 < next → (new : SessionState) (g : Found) → LooksUp version (next - 1) now new (Ok g) → IsCutShort version first old new ServerFault
    cut_after far new g l = no_memory_cut version first (f.told ++ Ok g ∷ []) old new (looked_then far new (Ok g) l)

    pub cut_dot : IsCutShort version first old now ServerFault
    cut_dot = no_memory_cut version first f.told old now f.looked

    -- ---- the page is full

    last_is : (n : ℕ) → IsTrue (nat_le 512 n) ↔ (512 ≤ n)
    last_is n = ((λ e. leb-true 512 n e), (λ e. le-leb 512 n e))

    longer_not : (x : Listed) (rest all : List Listed) → all ≡ es ++ x ∷ rest → es ≢ all
    longer_not x rest all is same =
        let long : length es ≡ length all = ap length same in
        let whole : length all ≡ length es + suc (length rest) = ap length is ∙ length-append es (x ∷ rest) in
        omega (arith, long, whole)

    full : (new : SessionState) (told : List (Result Found NfsError)) (x : Listed) (rest : List Listed) → LooksAllUp version first told old new → AreKnown told
        → es ++ x ∷ rest ≡ drop cookie (dots root) ++ found_among first told → room ≤ length es → IsPage version cookie (λ es. length es ≤ room) root old new es false
    full new told x rest looked known is no_room = record {
      all = es ++ x ∷ rest;
      is_last = nat_le 512 (first + length told);
      learned = record { told = told; looked = looked; known = known; entries = is; last = last_is (first + length told) };
      longest = longest room es (es ++ x ∷ rest) (x ∷ rest, refl) f.few (inl no_room);
      more = λ e. longer_not x rest (es ++ x ∷ rest) refl;
      no_more = λ e. absurd cc;
    }

    pub full_at_file : 2 < next → (new : SessionState) (g : Found) → LooksUp version (next - 1) now new (Ok g) → room ≤ length es → IsPage version cookie (λ es. length es ≤ room) root old new es false
    full_at_file far new g l no_room =
        full new (f.told ++ Ok g ∷ []) (listed g) [] (looked_then far new (Ok g) l) (known_behind f.told (Ok g) f.known tt)
        (ap (λ (r : List Listed). es ++ r) (sym (listed_is far g)) ∙ all_then far (Ok g)) no_room

    pub full_at_dot : next ≤ 2 → room ≤ length es → IsPage version cookie (λ es. length es ≤ room) root old now es false
    full_at_dot near no_room =
        full now f.told dot (drop (next + 1 - 1) (dots root)) f.looked f.known (ap (λ (r : List Listed). es ++ r) (sym (dot_is near)) ∙ f.so_far) no_room

  -- nothing is left
  pub ends : (old now : SessionState) (next : ℕ) (es : List Listed) → 513 ≤ next → Filling version cookie root room old now next es → IsPage version cookie (λ es. length es ≤ room) root old now es true
  ends old now next es last f =
      let none : drop (next - 1) (dots root) ≡ [] = no_dots root (next - 1) (omega (arith, last)) in
      let all_is : es ≡ drop cookie (dots root) ++ found_among first f.told = sym (append-nil es) ∙ ap (λ (r : List Listed). es ++ r) (sym none) ∙ f.so_far in
      let whole : 512 ≤ first + length f.told = omega (arith, f.asked, last) in
      record {
        all = es;
        is_last = true;
        learned = record { told = f.told; looked = f.looked; known = f.known; entries = all_is; last = ((λ e. whole), (λ e. refl)) };
        longest = longest room es es ([], append-nil es) f.few (inr refl);
        more = λ e. absurd cc;
        no_more = λ e. (refl, refl);
      }

-- ---- what was found, and how the page goes on

module _ {E : Type 0} (r : Result (Option E) NfsError) where
  none_some : (e : E) → r ≡ Ok None → r ≡ Ok (Some e) → ⊥
  none_some e p q = cc

  err_some : (why : NfsError) (e : E) → r ≡ Err why → r ≡ Ok (Some e) → ⊥
  err_some why e p q = cc

  some_is : (x y : E) → r ≡ Ok (Some x) → r ≡ Ok (Some y) → x ≡ y
  some_is x y p q = cc

module _ {E : Type 0} (version : FormatVersion) (cookie : ℕ) (root : Attributes) (room : ℕ) (old now new : SessionState) (next : ℕ) (es : List Listed) (above : cookie < next) (f : Filling version cookie root room old now next es) (view : E → Listed) where
  abbrev which : (next ≤ 2) ⊎ (2 < next)
  which = nat_cases next 2

  pub goes_on_without : Finds version next root now new view (Ok None) → Filling version cookie root room old new (next + 1) es
  goes_on_without h = of which
    where
      of : (next ≤ 2) ⊎ (2 < next) → Filling version cookie root room old new (next + 1) es
      of (inl near) = let d = dot_found version next root now new view (Ok None) near h in absurd (none_some (Ok None) d.1 refl d.2)
      of (inr far) = skips version cookie root room old now next es above f far new (file_found version next root now new view (Ok None) far h)

  pub goes_on_with : (e : E) → Finds version next root now new view (Ok (Some e)) → length es < room → Filling version cookie root room old new (next + 1) (es ++ view e ∷ [])
  goes_on_with e h place = of which
    where
      of : (next ≤ 2) ⊎ (2 < next) → Filling version cookie root room old new (next + 1) (es ++ view e ∷ [])
      of (inl near) =
          let d = dot_found version next root now new view (Ok (Some e)) near h in
          let seen : view e ≡ record { cookie = next; generation = 1; attributes = root } = ap view (some_is (Ok (Some e)) e d.1 refl d.2) ∙ d.3 in
          subst (λ (s : SessionState). Filling version cookie root room old s (next + 1) (es ++ view e ∷ [])) (sym d.0)
          (subst (λ (v : Listed). Filling version cookie root room old now (next + 1) (es ++ v ∷ [])) (sym seen) (adds_dot version cookie root room old now next es above f near place))
      of (inr far) =
          let d = file_found version next root now new view (Ok (Some e)) far h in
          subst (λ (v : Listed). Filling version cookie root room old new (next + 1) (es ++ v ∷ [])) (sym d.2) (adds_file version cookie root room old now next es above f far new d.0 d.1 place)

  pub is_full : (e : E) → Finds version next root now new view (Ok (Some e)) → room ≤ length es → IsPage version cookie (λ es. length es ≤ room) root old new es false
  is_full e h no_room = of which
    where
      of : (next ≤ 2) ⊎ (2 < next) → IsPage version cookie (λ es. length es ≤ room) root old new es false
      of (inl near) =
          let d = dot_found version next root now new view (Ok (Some e)) near h in
          subst (λ (s : SessionState). IsPage version cookie (λ es. length es ≤ room) root old s es false) (sym d.0) (full_at_dot version cookie root room old now next es above f near no_room)
      of (inr far) =
          let d = file_found version next root now new view (Ok (Some e)) far h in
          full_at_file version cookie root room old now next es above f far new d.0 d.1 no_room

  pub is_cut : (why : NfsError) → Finds version next root now new view (Err why) → IsCutShort version (first_number cookie) old new why
  is_cut why h = of which
    where
      of : (next ≤ 2) ⊎ (2 < next) → IsCutShort version (first_number cookie) old new why
      of (inl near) = let d = dot_found version next root now new view (Err why) near h in absurd (err_some (Err why) why d.1 refl d.2)
      of (inr far) =
          let d = file_found version next root now new view (Err why) far h in
          cut_file version cookie root room old now next es above f far new why d.0 d.1

  -- an entry for which there was no memory
  pub is_lost : (e : E) → Finds version next root now new view (Ok (Some e)) → IsCutShort version (first_number cookie) old new ServerFault
  is_lost e h = of which
    where
      of : (next ≤ 2) ⊎ (2 < next) → IsCutShort version (first_number cookie) old new ServerFault
      of (inl near) =
          let d = dot_found version next root now new view (Ok (Some e)) near h in
          subst (λ (s : SessionState). IsCutShort version (first_number cookie) old s ServerFault) (sym d.0) (cut_dot version cookie root room old now next es above f)
      of (inr far) =
          let d = file_found version next root now new view (Ok (Some e)) far h in
          cut_after version cookie root room old now next es above f far new d.0 d.1

-- one more entry is shown
pub pushed : {E : Type 0} (view : E → Listed) (items new : List E) (x : E) (l : Listed) → new ≡ items ++ x ∷ [] → view x ≡ l → map view new ≡ map view items ++ l ∷ []
pushed view items new x l is same = ap (map view) is ∙ map-append view items (x ∷ []) ∙ ap (λ (m : Listed). map view items ++ m ∷ []) same
