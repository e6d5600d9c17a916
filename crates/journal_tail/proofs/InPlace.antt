-- Updates of the blocks that stand in the tail, and those of the others behind them.
use Rattle.std.proofs.Common.{◌≡◌, ◌<◌, ◌≤◌, ◌+◌, ◌-◌, ◌^◌, ◌==◌, ◌||◌, ◌&&◌, not, ℕ, Bool, true, false, cond, List, [], ◌∷◌, ◌++◌, map, get_or, length, IsTrue, refl, sym, ap, subst, ◌∙◌, arith, length-drop, append_assoc}
use Rattle.std.specs.List.{All, AllByRecursion}
use Rattle.std.proofs.lemmas.Bool.{eq-eqb, eqb-true, ne_eqb, false≢true, cond-true, cond-false, and_parts}
use Rattle.std.proofs.lemmas.List.{append-nil, take-append-drop, length-map, length-take-le, take_at, drop_at, get_or-map, get_or_default, same_lists}
use Rattle.std.proofs.lemmas.List.Elements.{All-nil, All-cons, All-tail}
use Rattle.std.proofs.lemmas.Simd.{map-map}
use Rattle.journal_world.specs.declared.address.Addr.{Addr}
use Rattle.journal_world.specs.Maps.{Pair, is_object, are_objects, is_value_at}
use Rattle.journal_world.specs.Addresses.{Value, Shape, is_valid, kind_of}
use Rattle.journal_world.specs.Orders.{HasAscendingBlocks}
use Rattle.journal_block.specs.declared.update.Update.{Update}
use Rattle.journal_block.specs.Block.{Bytes}
use Rattle.journal_block.specs.Updates.{updated, updates_block}
use Rattle.journal_memlog.specs.Logs.{LogState, IsMemLog, HasDistinctBlocks, head_of, tail_of, next_position, replaced, with_update, absorbed, appended, fresh_count}
use Rattle.journal_memlog.specs.Buckets.{no_update, update_at, IsLastOf}
use Rattle.journal_memlog.specs.Lending.{with_content}
use Rattle.journal_memlog.proofs.Places.{updated_by_last, stands_at, at_drop}
use Rattle.journal_tail.specs.Homes.{AreHomes}
use Rattle.journal_tail.specs.Tails.{TailState, TakesUpdates}
use Rattle.journal_object.specs.Objects.{with_object_at}
use Rattle.journal_object.proofs.MapOfBlocks.{valid_block}
use Rattle.journal_tail.specs.Writes.{writes_block, written_blocks, fresh_among}
use Rattle.journal_tail.specs.Staging.{IsAboveNone}
use Rattle.journal_tail.specs.ObjectTails.{blocks_of, TakesPrepared}
use Rattle.journal_tail.proofs.Ascending.{objects_split}
use Rattle.journal_tail.specs.Applying.{stored_in, stored_update, stored_log, fresh_writes, standing_blocks, standing_updates, all_updates}
use Rattle.journal_tail.proofs.Updates.{fresh_cons}

-- ---- the writes of the other blocks

module _ (tail : List Update) where
  -- a block that stands there is none of theirs, and another is where it was one of all
  pub fresh_standing : (ws : List Pair) (b : ℕ) → updates_block tail b ≡ true → writes_block (fresh_writes tail ws) b ≡ false
  fresh_standing [] b stands = refl
  fresh_standing (p ∷ ws) b stands = by (updates_block tail p.0.block) refl (fresh_standing ws b stands)
    where
      by : (t : Bool) → updates_block tail p.0.block ≡ t → writes_block (fresh_writes tail ws) b ≡ false
          → writes_block (cond t (fresh_writes tail ws) (p ∷ fresh_writes tail ws)) b ≡ false
      by true is rest = rest
      by false is rest = ap (λ (t : Bool). t || writes_block (fresh_writes tail ws) b)
          (ne_eqb p.0.block b (λ same. false≢true (sym is ∙ ap (updates_block tail) same ∙ stands)))
          ∙ rest

  pub fresh_other : (ws : List Pair) (b : ℕ) → updates_block tail b ≡ false → writes_block (fresh_writes tail ws) b ≡ writes_block ws b
  fresh_other [] b other = refl
  fresh_other (p ∷ ws) b other = by (updates_block tail p.0.block) refl (fresh_other ws b other)
    where
      by : (t : Bool) → updates_block tail p.0.block ≡ t → writes_block (fresh_writes tail ws) b ≡ writes_block ws b
          → writes_block (cond t (fresh_writes tail ws) (p ∷ fresh_writes tail ws)) b ≡ (p.0.block == b || writes_block ws b)
      by true is rest = rest
          ∙ sym (ap (λ (t : Bool). t || writes_block ws b) (ne_eqb p.0.block b (λ same. false≢true (sym other ∙ sym (ap (updates_block tail) same) ∙ is))))
      by false is rest = ap (λ (t : Bool). p.0.block == b || t) rest

  -- they ascend too
  fresh_above : (b : ℕ) (ws : List Pair) → IsAboveNone b ws → IsAboveNone b (fresh_writes tail ws)
  fresh_above b [] above = tt
  fresh_above b (p ∷ ws) above = by (updates_block tail p.0.block) (fresh_above b ws above.1)
    where
      by : (t : Bool) → IsAboveNone b (fresh_writes tail ws) → IsAboveNone b (cond t (fresh_writes tail ws) (p ∷ fresh_writes tail ws))
      by true rest = rest
      by false rest = (above.0, rest)

  fresh_ascending : (ws : List Pair) → HasAscendingBlocks ws → HasAscendingBlocks (fresh_writes tail ws)
  fresh_ascending [] ascending = tt
  fresh_ascending (p ∷ ws) ascending = by (updates_block tail p.0.block) (fresh_ascending ws ascending.1)
    where
      by : (t : Bool) → HasAscendingBlocks (fresh_writes tail ws) → HasAscendingBlocks (cond t (fresh_writes tail ws) (p ∷ fresh_writes tail ws))
      by true rest = rest
      by false rest = (fresh_above p.0.block ws ascending.0, rest)

  pub fresh_below : (b : ℕ) (ws : List Pair) → IsAboveNone b ws × HasAscendingBlocks ws
      → IsAboveNone b (fresh_writes tail ws) × HasAscendingBlocks (fresh_writes tail ws)
  fresh_below b ws under = (fresh_above b ws under.0, fresh_ascending ws under.1)

  -- and take as many places
  pub fresh_places : (ws : List Pair) → fresh_among tail (fresh_writes tail ws) ≡ fresh_among tail ws
  fresh_places [] = refl
  fresh_places (p ∷ ws) = by (updates_block tail p.0.block) refl (fresh_places ws)
    where
      by : (t : Bool) → updates_block tail p.0.block ≡ t → fresh_among tail (fresh_writes tail ws) ≡ fresh_among tail ws → fresh_among tail (cond t (fresh_writes tail ws) (p ∷ fresh_writes tail ws)) ≡ fresh_among tail (p ∷ ws)
      by true is rest = rest ∙ none (writes_block ws p.0.block) (updates_block tail p.0.block) is
        where
          none : (w t : Bool) → t ≡ true → fresh_among tail ws ≡ cond (w || t) 0 1 + fresh_among tail ws
          none true t is = omega arith
          none false true is = omega arith
          none false false is = absurd (false≢true is)
      by false is rest = ap (λ (w : Bool). cond (w || updates_block tail p.0.block) 0 1 + fresh_among tail (fresh_writes tail ws)) (fresh_other ws p.0.block is)
          ∙ ap (λ (n : ℕ). cond (writes_block ws p.0.block || updates_block tail p.0.block) 0 1 + n) rest

-- ---- one update of each block that is written and stands there

module _ (tail : List Update) (f : ℕ → Bytes) where
  abbrev made_of : ℕ → Update
  made_of b = record { block = b; bytes = f b }

  abbrev made : List Pair → List Update
  made ws = map made_of (standing_blocks tail ws)

  -- a write in a block that was not written yet adds its block where that stands
  pub made_named : (ws : List Pair) (b : ℕ) → updates_block (made ws) b ≡ (writes_block ws b && updates_block tail b)
  made_named [] b = refl
  made_named (p ∷ ws) b = by (updates_block tail p.0.block) (writes_block ws p.0.block) refl refl (p.0.block == b) refl (made_named ws b)
    where
      by : (t w : Bool) → updates_block tail p.0.block ≡ t → writes_block ws p.0.block ≡ w → (here : Bool) → (p.0.block == b) ≡ here
          → updates_block (made ws) b ≡ (writes_block ws b && updates_block tail b)
          → updates_block (map made_of (cond (t && not w) (p.0.block ∷ standing_blocks tail ws) (standing_blocks tail ws))) b ≡ ((here || writes_block ws b) && updates_block tail b)
      by true false stands new true here rest = ap (λ (t : Bool). t || updates_block (made ws) b) here
          ∙ sym stands ∙ ap (updates_block tail) (eqb-true p.0.block b here)
      by true false stands new false here rest = ap (λ (t : Bool). t || updates_block (made ws) b) here ∙ rest
      by true true stands old true here rest = rest
          ∙ ap (λ (t : Bool). t && updates_block tail b) (ap (writes_block ws) (sym (eqb-true p.0.block b here)) ∙ old)
      by true true stands old false here rest = rest
      by false w stands is true here rest =
          let none : updates_block tail b ≡ false = ap (updates_block tail) (sym (eqb-true p.0.block b here)) ∙ stands in
          rest ∙ both (writes_block ws b) (updates_block tail b) none ∙ sym none
        where
          both : (x y : Bool) → y ≡ false → (x && y) ≡ false
          both true y is = is
          both false y is = refl
      by false w stands is false here rest = rest

  pub made_updated : (ws : List Pair) (b : ℕ) (x : Bytes) → updated (made ws) b x ≡ cond (writes_block ws b && updates_block tail b) (f b) x
  made_updated [] b x = refl
  made_updated (p ∷ ws) b x = by (updates_block tail p.0.block) (writes_block ws p.0.block) refl refl (p.0.block == b) refl (made_updated ws b)
    where
      by : (t w : Bool) → updates_block tail p.0.block ≡ t → writes_block ws p.0.block ≡ w → (here : Bool) → (p.0.block == b) ≡ here
          → ((y : Bytes) → updated (made ws) b y ≡ cond (writes_block ws b && updates_block tail b) (f b) y)
          → updated (map made_of (cond (t && not w) (p.0.block ∷ standing_blocks tail ws) (standing_blocks tail ws))) b x
          ≡ cond ((here || writes_block ws b) && updates_block tail b) (f b) x
      by true false stands new true here rest =
          let same : p.0.block ≡ b = eqb-true p.0.block b here in
          ap (updated (made ws) b) (cond-true _ (f p.0.block) x here ∙ ap f same)
          ∙ rest (f b)
          ∙ either (writes_block ws b && updates_block tail b)
          ∙ sym (cond-true (updates_block tail b) (f b) x (ap (updates_block tail) (sym same) ∙ stands))
        where
          either : (t : Bool) → cond t (f b) (f b) ≡ f b
          either true = refl
          either false = refl
      by true false stands new false here rest = ap (updated (made ws) b) (cond-false _ (f p.0.block) x here) ∙ rest x
      by true true stands old true here rest = rest x
          ∙ ap (λ (t : Bool). cond (t && updates_block tail b) (f b) x) (ap (writes_block ws) (sym (eqb-true p.0.block b here)) ∙ old)
      by true true stands old false here rest = rest x
      by false w stands is true here rest =
          let none : updates_block tail b ≡ false = ap (updates_block tail) (sym (eqb-true p.0.block b here)) ∙ stands in
          rest x
          ∙ ap (λ (t : Bool). cond t (f b) x) (both (writes_block ws b) (updates_block tail b) none ∙ sym none)
        where
          both : (x y : Bool) → y ≡ false → (x && y) ≡ false
          both true y is = is
          both false y is = refl
      by false w stands is false here rest = rest x

  -- so many of the written blocks are these
  pub made_number : (ws : List Pair) → length (made ws) + written_blocks (fresh_writes tail ws) ≡ written_blocks ws
  made_number [] = refl
  made_number (p ∷ ws) = by (updates_block tail p.0.block) (writes_block ws p.0.block) refl refl (made_number ws)
    where
      by : (t w : Bool) → updates_block tail p.0.block ≡ t → writes_block ws p.0.block ≡ w
          → length (made ws) + written_blocks (fresh_writes tail ws) ≡ written_blocks ws
          → length (map made_of (cond (t && not w) (p.0.block ∷ standing_blocks tail ws) (standing_blocks tail ws)))
          + written_blocks (cond t (fresh_writes tail ws) (p ∷ fresh_writes tail ws)) ≡ cond w 0 1 + written_blocks ws
      by true true stands is rest = omega (arith, rest)
      by true false stands is rest = omega (arith, rest)
      by false w stands is rest =
          ap (λ (w : Bool). length (made ws) + (cond w 0 1 + written_blocks (fresh_writes tail ws))) (fresh_other tail ws p.0.block stands ∙ is)
          ∙ omega (arith, rest)

  -- each of them stands there
  pub made_standing : (ws : List Pair) → AllByRecursion (λ u. updates_block tail u.block ≡ true) (made ws)
  made_standing [] = tt
  made_standing (p ∷ ws) = by (updates_block tail p.0.block) (writes_block ws p.0.block) refl (made_standing ws)
    where
      by : (t w : Bool) → updates_block tail p.0.block ≡ t → AllByRecursion (λ u. updates_block tail u.block ≡ true) (made ws)
          → AllByRecursion (λ u. updates_block tail u.block ≡ true) (map made_of (cond (t && not w) (p.0.block ∷ standing_blocks tail ws) (standing_blocks tail ws)))
      by true true stands rest = rest
      by true false stands rest = (stands, rest)
      by false w stands rest = rest

  pub made_homes : (n : Shape) (ws : List Pair) → IsTrue (are_objects n ws) → AreHomes n.blocks (made ws)
  made_homes n [] objects = All-nil (λ (u : Update). (513 ≤ u.block) × (u.block < n.blocks))
  made_homes n (p ∷ ws) objects = by (updates_block tail p.0.block && not (writes_block ws p.0.block)) (made_homes n ws (parts.1))
    where
      parts : IsTrue (is_object n p) × IsTrue (are_objects n ws)
      parts = and_parts (is_object n p) (are_objects n ws) objects

      by : (t : Bool) → AreHomes n.blocks (made ws) → AreHomes n.blocks (map made_of (cond t (p.0.block ∷ standing_blocks tail ws) (standing_blocks tail ws)))
      by true rest = All-cons (λ (u : Update). (513 ≤ u.block) × (u.block < n.blocks)) (made_of p.0.block) (made ws)
          (valid_block n p.0 (and_parts (is_valid n p.0) (is_value_at (kind_of n p.0.block) p.1) parts.0).0) rest
      by false rest = rest

-- none takes a place
pub standing_fresh : (tail us vs : List Update) → AllByRecursion (λ u. updates_block tail u.block ≡ true) us → fresh_count tail (us ++ vs) ≡ fresh_count tail vs
standing_fresh tail [] vs all = refl
standing_fresh tail (u ∷ us) vs all =
    fresh_cons tail u (us ++ vs)
    ∙ ap (λ (t : Bool). cond (not t) 1 0 + fresh_count tail (us ++ vs)) all.0
    ∙ omega (arith, standing_fresh tail us vs all.1)

-- ---- absorbed in the tail

pub absorbed_append : (tail us vs : List Update) → absorbed tail (us ++ vs) ≡ absorbed (absorbed tail us) vs
absorbed_append tail [] vs = refl
absorbed_append tail (u ∷ us) vs = absorbed_append (with_update tail u) us vs

-- the tail with these updates in the places of those of their blocks
abbrev pub overwritten_by : List Update → Update → Update
overwritten_by us t = record t { bytes = updated us t.block t.bytes }

one_there : (u t : Update) → replaced u t ≡ overwritten_by (u ∷ []) t
one_there u t = by (t.block == u.block) refl
  where
    by : (same : Bool) → (t.block == u.block) ≡ same → replaced u t ≡ overwritten_by (u ∷ []) t
    by true same =
        let is : t.block ≡ u.block = eqb-true t.block u.block same in
        cond-true _ u t same
        ∙ (λ i. record { block = sym is i; bytes = u.bytes })
        ∙ ap (λ (x : Bytes). record t { bytes = x }) (sym (cond-true _ u.bytes t.bytes (eq-eqb u.block t.block (sym is))))
    by false same = cond-false _ u t same
        ∙ ap (λ (x : Bytes). record t { bytes = x }) (sym (cond-false _ u.bytes t.bytes (ne_eqb u.block t.block (λ is. false≢true (sym same ∙ eq-eqb t.block u.block (sym is))))))

map_alike : (f g : Update → Update) → ((t : Update) → f t ≡ g t) → (ts : List Update) → map f ts ≡ map g ts
map_alike f g same [] = refl
map_alike f g same (t ∷ ts) = (λ i. same t i ∷ map_alike f g same ts i)

map_nothing : (ts : List Update) → map (overwritten_by []) ts ≡ ts
map_nothing [] = refl
map_nothing (t ∷ ts) = ap (λ (us : List Update). t ∷ us) (map_nothing ts)

-- whose blocks are the same
stands_still : (us tail : List Update) (b : ℕ) → updates_block (map (overwritten_by us) tail) b ≡ updates_block tail b
stands_still us [] b = refl
stands_still us (t ∷ tail) b = ap (λ (v : Bool). t.block == b || v) (stands_still us tail b)

stand_still : (tail us vs : List Update) → AllByRecursion (λ u. updates_block tail u.block ≡ true) vs
    → AllByRecursion (λ u. updates_block (map (overwritten_by us) tail) u.block ≡ true) vs
stand_still tail us [] all = tt
stand_still tail us (v ∷ vs) all = (stands_still us tail v.block ∙ all.0, stand_still tail us vs all.1)

pub absorbed_standing : (tail us : List Update) → AllByRecursion (λ u. updates_block tail u.block ≡ true) us
    → absorbed tail us ≡ map (overwritten_by us) tail
absorbed_standing tail [] all = sym (map_nothing tail)
absorbed_standing tail (u ∷ us) all =
    ap (λ (ts : List Update). absorbed ts us) one
    ∙ absorbed_standing (map (overwritten_by (u ∷ [])) tail) us (stand_still tail (u ∷ []) us all.1)
    ∙ map-map (overwritten_by us) (overwritten_by (u ∷ [])) tail
  where
    one : with_update tail u ≡ map (overwritten_by (u ∷ [])) tail
    one = cond-true _ (map (replaced u) tail) (tail ++ u ∷ []) all.0 ∙ map_alike (replaced u) (overwritten_by (u ∷ [])) (one_there u) tail

-- ---- writes stored in the tail

-- a block that is not written stays
pub stored_unwritten : (n : Shape) (ws : List Pair) (b : ℕ) (bytes : Bytes) → writes_block ws b ≡ false → stored_in n ws b bytes ≡ bytes
stored_unwritten n [] b bytes none = refl
stored_unwritten n (p ∷ ws) b bytes none = by (p.0.block == b) refl none (stored_unwritten n ws b bytes)
  where
    by : (here : Bool) → (p.0.block == b) ≡ here → (here || writes_block ws b) ≡ false → (writes_block ws b ≡ false → stored_in n ws b bytes ≡ bytes)
        → cond (p.0.block == b) (with_object_at n (stored_in n ws b bytes) p.0 p.1) (stored_in n ws b bytes) ≡ bytes
    by true here is rest = absurd (false≢true (sym is))
    by false here is rest = cond-false _ (with_object_at n (stored_in n ws b bytes) p.0 p.1) (stored_in n ws b bytes) here ∙ rest is

module _ (n : Shape) (tail : List Update) (distinct : HasDistinctBlocks tail) where
  -- each update of the tail is the last of its block
  pub last_there : (k : ℕ) (d : Update) (x : Bytes) → k < length tail → updated tail (get_or tail k d).block x ≡ (get_or tail k d).bytes
  last_there k d x lt =
      updated_by_last tail (get_or tail k d).block k x lt (ap (λ (u : Update). u.block) here)
      (λ j after within same. distinct k j no_update after within (sym (same ∙ ap (λ (u : Update). u.block) (sym here))))
      ∙ ap (λ (u : Update). u.bytes) here
    where
      here : update_at tail k ≡ get_or tail k d
      here = get_or_default tail k no_update d lt

  pub named_there : (k : ℕ) (d : Update) → k < length tail → updates_block tail (get_or tail k d).block ≡ true
  named_there k d lt = stands_at tail (get_or tail k d).block k lt (ap (λ (u : Update). u.block) (get_or_default tail k no_update d lt))

  pub absorbed_is : (ws : List Pair) → absorbed tail (standing_updates n tail ws) ≡ map (stored_update n ws) tail
  absorbed_is ws =
      absorbed_standing tail S (made_standing tail f ws)
      ∙ same_lists (map (overwritten_by S) tail) (map (stored_update n ws) tail)
      (length-map tail (overwritten_by S) ∙ sym (length-map tail (stored_update n ws)))
      (λ k d lt. let within : k < length tail = omega (arith, lt, length-map tail (overwritten_by S)) in
      get_or-map (overwritten_by S) tail k d d within
      ∙ ap (λ (x : Bytes). record (get_or tail k d) { bytes = x }) (each k d within)
      ∙ sym (get_or-map (stored_update n ws) tail k d d within))
    where
      f : ℕ → Bytes
      f b = stored_in n ws b (updated tail b [])

      S : List Update
      S = standing_updates n tail ws

      each : (k : ℕ) (d : Update) → k < length tail
          → updated S (get_or tail k d).block (get_or tail k d).bytes ≡ stored_in n ws (get_or tail k d).block (get_or tail k d).bytes
      each k d lt = made_updated tail f ws (get_or tail k d).block (get_or tail k d).bytes
          ∙ ap (λ (t : Bool). cond (writes_block ws (get_or tail k d).block && t) (f (get_or tail k d).block) (get_or tail k d).bytes) (named_there k d lt)
          ∙ by (writes_block ws (get_or tail k d).block) refl
        where
          by : (w : Bool) → writes_block ws (get_or tail k d).block ≡ w
              → cond (w && true) (f (get_or tail k d).block) (get_or tail k d).bytes ≡ stored_in n ws (get_or tail k d).block (get_or tail k d).bytes
          by true is = ap (stored_in n ws (get_or tail k d).block) (last_there k d [] lt)
          by false is = sym (stored_unwritten n ws (get_or tail k d).block (get_or tail k d).bytes is)

-- ---- the log

module _ (n : Shape) (log : LogState) (sound : IsMemLog log) (ws : List Pair) where
  width : length (head_of log) ≡ log.cut - log.start
  width = length-take-le (log.cut - log.start) log.updates (omega (arith, sound.bounds.start_to_logged, sound.bounds.logged_to_cut, sound.bounds.cut_to_next))

  pub stored_head : head_of (stored_log n ws log) ≡ head_of log
  stored_head = take_at (head_of log) (map (stored_update n ws) (tail_of log)) (log.cut - log.start) width

  pub stored_tail : tail_of (stored_log n ws log) ≡ map (stored_update n ws) (tail_of log)
  stored_tail = drop_at (head_of log) (map (stored_update n ws) (tail_of log)) (log.cut - log.start) width

  -- what is appended to it is appended behind what was stored
  pub stored_appended : (fresh : List Update) → appended (stored_log n ws log) fresh ≡ appended log (all_updates n log ws fresh)
  stored_appended fresh =
      (λ i. record log { updates = stored_head i ++ absorbed (stored_tail i) fresh; room = log.room + length (stored_tail i) - length (absorbed (stored_tail i) fresh) })
      ∙ ap (λ (k : ℕ). record log { updates = head_of log ++ absorbed stored fresh; room = log.room + k - length (absorbed stored fresh) })
      (length-map (tail_of log) (stored_update n ws))
      ∙ ap (λ (ts : List Update). record log { updates = head_of log ++ ts; room = log.room + length (tail_of log) - length ts }) (sym after)
    where
      stored : List Update
      stored = map (stored_update n ws) (tail_of log)

      after : absorbed (tail_of log) (all_updates n log ws fresh) ≡ absorbed stored fresh
      after = absorbed_append (tail_of log) (standing_updates n (tail_of log) ws) fresh
          ∙ ap (λ (ts : List Update). absorbed ts fresh) (absorbed_is n (tail_of log) sound.distinct ws)

-- One write more

map_kept : (n : Shape) (a : Addr) (v : Value) (ts : List Update) → updates_block ts a.block ≡ false → map (stored_update n ((a, v) ∷ [])) ts ≡ ts
map_kept n a v [] none = refl
map_kept n a v (t ∷ ts) none =
    let parts = or_parts (t.block == a.block) (updates_block ts a.block) none in
    (λ i. record t {
      bytes = stored_unwritten n ((a, v) ∷ []) t.block t.bytes
          (ap (λ (b : Bool). b || false) (ne_eqb a.block t.block (λ same. false≢true (sym parts.0 ∙ eq-eqb t.block a.block (sym same))))) i;
    } ∷ map_kept n a v ts parts.1 i)
  where
    or_parts : (x y : Bool) → (x || y) ≡ false → (x ≡ false) × (y ≡ false)
    or_parts true y is = absurd (false≢true (sym is))
    or_parts false y is = (refl, is)

-- no writes change nothing
map_none : (n : Shape) (ts : List Update) → map (stored_update n []) ts ≡ ts
map_none n [] = refl
map_none n (t ∷ ts) = ap (λ (us : List Update). t ∷ us) (map_none n ts)

pub stored_none : (n : Shape) (log : LogState) → stored_log n [] log ≡ log
stored_none n log = ap (λ (ts : List Update). record log { updates = head_of log ++ ts }) (map_none n (tail_of log))
    ∙ ap (λ (us : List Update). record log { updates = us }) (take-append-drop (log.cut - log.start) log.updates)

-- nor does one in a block that does not stand in the tail
pub stored_away : (n : Shape) (log : LogState) (a : Addr) (v : Value) → updates_block (tail_of log) a.block ≡ false → stored_log n ((a, v) ∷ []) log ≡ log
stored_away n log a v none = ap (λ (ts : List Update). record log { updates = head_of log ++ ts }) (map_kept n a v (tail_of log) none)
    ∙ ap (λ (us : List Update). record log { updates = us }) (take-append-drop (log.cut - log.start) log.updates)

-- one that comes before others is stored after them
pub stored_more : (n : Shape) (log : LogState) → IsMemLog log → (p : Pair) (ws : List Pair) → stored_log n (p ∷ []) (stored_log n ws log) ≡ stored_log n (p ∷ ws) log
stored_more n log sound p ws =
    (λ i. record log { updates = stored_head n log sound ws i ++ map (stored_update n (p ∷ [])) (stored_tail n log sound ws i) })
    ∙ ap (λ (ts : List Update). record log { updates = head_of log ++ ts }) (map-map (stored_update n (p ∷ [])) (stored_update n ws) (tail_of log))

-- one in a block that stands in the tail changes its content there
module _ (n : Shape) (log : LogState) (sound : IsMemLog log) (a : Addr) (v : Value) (position : ℕ) (last : IsLastOf log a.block log.cut position)
    (old new : Bytes) (was : old ≡ (update_at log.updates (position - log.start)).bytes) (is : new ≡ with_object_at n old a v) where
  abbrev tail : List Update
  tail = tail_of log

  abbrev u : Update
  u = record (update_at log.updates (position - log.start)) { bytes = new }

  abbrev place : ℕ
  place = position - log.cut

  within : place < length tail
  within = omega (arith, last.from, last.within, length-drop (log.cut - log.start) log.updates, sound.bounds.start_to_logged, sound.bounds.logged_to_cut)

  at_place : update_at tail place ≡ update_at log.updates (position - log.start)
  at_place = at_drop (log.cut - log.start) log.updates place no_update (omega (arith, last.from, last.within, sound.bounds.start_to_logged, sound.bounds.logged_to_cut))
      ∙ ap (update_at log.updates) (omega (arith, last.from, sound.bounds.start_to_logged, sound.bounds.logged_to_cut))

  stands : updates_block tail u.block ≡ true
  stands = stands_at tail u.block place within (ap (λ (w : Update). w.block) at_place)

  -- it is the only one of its block
  had : (k : ℕ) (d : Update) → k < length tail → (get_or tail k d).block ≡ a.block → (get_or tail k d).bytes ≡ old
  had k d lt same =
      sym (last_there n tail sound.distinct k d [] lt)
      ∙ ap (λ (b : ℕ). updated tail b []) (same ∙ sym (ap (λ (w : Update). w.block) at_place ∙ last.block))
      ∙ last_there n tail sound.distinct place no_update [] within
      ∙ ap (λ (w : Update). w.bytes) at_place
      ∙ sym was

  alike : (k : ℕ) (d : Update) → k < length tail
      → cond (u.block == (get_or tail k d).block) new (get_or tail k d).bytes ≡ stored_in n ((a, v) ∷ []) (get_or tail k d).block (get_or tail k d).bytes
  alike k d lt = ap (λ (b : ℕ). cond (b == (get_or tail k d).block) new (get_or tail k d).bytes) last.block
      ∙ by (a.block == (get_or tail k d).block) refl
    where
      by : (same : Bool) → (a.block == (get_or tail k d).block) ≡ same
          → cond same new (get_or tail k d).bytes ≡ cond same (with_object_at n (get_or tail k d).bytes a v) (get_or tail k d).bytes
      by true same = is ∙ ap (λ (x : Bytes). with_object_at n x a v) (sym (had k d lt (sym (eqb-true a.block (get_or tail k d).block same))))
      by false same = refl

  tail_is : with_update tail u ≡ map (stored_update n ((a, v) ∷ [])) tail
  tail_is = cond-true _ (map (replaced u) tail) (tail ++ u ∷ []) stands
      ∙ map_alike (replaced u) (overwritten_by (u ∷ [])) (one_there u) tail
      ∙ same_lists (map (overwritten_by (u ∷ [])) tail) (map (stored_update n ((a, v) ∷ [])) tail)
      (length-map tail (overwritten_by (u ∷ [])) ∙ sym (length-map tail (stored_update n ((a, v) ∷ []))))
      (λ k d lt. let inside : k < length tail = omega (arith, lt, length-map tail (overwritten_by (u ∷ []))) in
      get_or-map (overwritten_by (u ∷ [])) tail k d d inside
      ∙ ap (λ (x : Bytes). record (get_or tail k d) { bytes = x }) (alike k d inside)
      ∙ sym (get_or-map (stored_update n ((a, v) ∷ [])) tail k d d inside))

  pub stored_there : with_content log position new ≡ stored_log n ((a, v) ∷ []) log
  stored_there = ap (λ (ts : List Update). record log { updates = head_of log ++ ts; room = log.room + length tail - length ts }) tail_is
      ∙ ap (λ (k : ℕ). record log { updates = head_of log ++ map (stored_update n ((a, v) ∷ [])) tail; room = k }) room
    where
      room : log.room + length tail - length (map (stored_update n ((a, v) ∷ [])) tail) ≡ log.room
      room = omega (arith, length-map tail (stored_update n ((a, v) ∷ [])))

-- Storing all of them, from the last on

pub record IsStoring (n : Shape) (old now : TailState) (writes left done : List Pair) : Type 0 where
  pub split : writes ≡ left ++ done
  pub objects : IsTrue (are_objects n left)
  pub stored : now ≡ record old { log = stored_log n done old.log }

pub storing_begins : (n : Shape) (old now : TailState) (writes left : List Pair) → now ≡ old → left ≡ writes → IsTrue (are_objects n writes) → IsStoring n old now writes left []
storing_begins n old now writes left is whole objects = record {
  split = sym whole ∙ sym (append-nil left);
  objects = subst (λ (ws : List Pair). IsTrue (are_objects n ws)) (sym whole) objects;
  stored = is ∙ ap (λ (l : LogState). record old { log = l }) (sym (stored_none n old.log));
}

module _ (n : Shape) (old now : TailState) (writes left rest done : List Pair) (p : Pair) (took : left ≡ rest ++ p ∷ []) (so : IsStoring n old now writes left done) where
  pub storing_object : IsTrue (is_object n p)
  storing_object = (objects_split n rest p (subst (λ (ws : List Pair). IsTrue (are_objects n ws)) took so.objects)).1

  pub storing_more : IsMemLog old.log → (after : TailState) → after ≡ record now { log = stored_log n (p ∷ []) now.log } → IsStoring n old after writes rest (p ∷ done)
  storing_more sound after is = record {
    split = so.split ∙ ap (λ (ws : List Pair). ws ++ done) took ∙ append_assoc rest (p ∷ []) done;
    objects = (objects_split n rest p (subst (λ (ws : List Pair). IsTrue (are_objects n ws)) took so.objects)).0;
    stored = is
        ∙ ap (λ (t : TailState). record t { log = stored_log n (p ∷ []) t.log }) so.stored
        ∙ ap (λ (l : LogState). record old { log = l }) (stored_more n old.log sound p done);
  }

-- Once they are stored, the others can be appended

all_behind : (P : Update → Type 0) (us vs : List Update) → All P (us ++ vs) → All P vs
all_behind P [] vs all = all
all_behind P (u ∷ us) vs all = all_behind P us vs (All-tail P u (us ++ vs) all)

module _ (n : Shape) (t : TailState) (sound : IsMemLog t.log) (writes : List Pair) (fresh : List Update) (takes : TakesPrepared n t writes fresh) where
  abbrev later : LogState
  later = stored_log n writes t.log

  pub fresh_homes : AreHomes (blocks_of t) fresh
  fresh_homes = all_behind (λ (u : Update). (513 ≤ u.block) × (u.block < blocks_of t)) (standing_updates n (tail_of t.log) writes) fresh takes.homes

  same_tail : absorbed (tail_of later) fresh ≡ absorbed (tail_of t.log) (all_updates n t.log writes fresh)
  same_tail = ap (λ (ts : List Update). absorbed ts fresh) (stored_tail n t.log sound writes)
      ∙ sym (absorbed_append (tail_of t.log) (standing_updates n (tail_of t.log) writes) fresh
      ∙ ap (λ (ts : List Update). absorbed ts fresh) (absorbed_is n (tail_of t.log) sound.distinct writes))

  same_length : length (tail_of later) ≡ length (tail_of t.log)
  same_length = ap (λ (ts : List Update). length ts) (stored_tail n t.log sound writes) ∙ length-map (tail_of t.log) (stored_update n writes)

  pub fresh_room : TakesUpdates later fresh
  fresh_room = record {
    can = record {
      on_disk = all_behind (λ (u : Update). u.block < blocks_of t) (standing_updates n (tail_of t.log) writes) fresh takes.room.can.on_disk;
      room = omega (arith, takes.room.can.room, same_length, ap (λ (ts : List Update). length ts) same_tail);
      below = subst (λ (l : LogState). next_position l < 2 ^ 62) (sym (stored_appended n t.log sound writes fresh)) takes.room.can.below;
    };
    tail = omega (arith, takes.room.tail, ap (λ (ts : List Update). length ts) same_tail);
  }
