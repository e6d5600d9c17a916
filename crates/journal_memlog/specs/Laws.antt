-- Laws of every tail and every log.
use Rattle.std.proofs.Common.{◌≡◌, ℕ, ◌+◌, ◌-◌, ◌≤◌, ◌<◌, ◌^◌, eqb, ◌||◌, Bool, true, false, not, cond, List, [], ◌∷◌, ◌++◌, length, take, drop, map, refl, sym, ap, ◌∙◌, arith, append_assoc, length-append}
use Rattle.std.specs.List.{All}
use Rattle.std.proofs.lemmas.List.{append-nil, length-map, length-take-le, length_push, take-append-drop, take_at, drop_at}
use Rattle.std.proofs.lemmas.List.Sums.{sum_by-cons}
use Rattle.std.proofs.lemmas.List.Elements.{All-head, All-tail, All-cons, All-push, All-append, All-take, All-drop}
use Rattle.std.proofs.lemmas.Bool.{cond-true, cond-false, cond_both, eq-eqb, eqb-true}
use Rattle.journal_block.specs.declared.update.Update.{Update}
use Rattle.journal_block.specs.Block.{Bytes}
use Rattle.journal_block.specs.Updates.{updated, updates_block}
use Rattle.journal_block.specs.UpdateLaws.{updated-append}
use Rattle.journal_memlog.specs.Logs.{LogState, next_position, head_of, tail_of, replaced, with_update, absorbed, fresh_count, appended, AreOnDisk, CanTake}

-- Lists of updates

pub updates_block-append : (first later : List Update) (b : ℕ)
    → updates_block (first ++ later) b ≡ (updates_block first b || updates_block later b)
updates_block-append [] later b = refl
updates_block-append (u ∷ first) later b = by (eqb u.block b) (updates_block-append first later b)
  where
    by : (here : Bool) → updates_block (first ++ later) b ≡ (updates_block first b || updates_block later b)
        → (here || updates_block (first ++ later) b) ≡ ((here || updates_block first b) || updates_block later b)
    by true rest = refl
    by false rest = rest

-- the first n updates, and then the others
pub updated-split : (n : ℕ) (updates : List Update) (b : ℕ) (bytes : Bytes)
    → updated updates b bytes ≡ updated (drop n updates) b (updated (take n updates) b bytes)
updated-split n updates b bytes =
    ap (λ (us : List Update). updated us b bytes) (sym (take-append-drop n updates))
    ∙ updated-append (take n updates) (drop n updates) b bytes

-- Replacing

-- where an update replaces all of its block, that block has its bytes
updated-replaced : (tail : List Update) (u : Update) → updated (map (replaced u) tail) u.block u.bytes ≡ u.bytes
updated-replaced [] u = refl
updated-replaced (t ∷ tail) u = by (eqb t.block u.block) refl ∙ updated-replaced tail u
  where
    by : (same : Bool) → eqb t.block u.block ≡ same
        → updated (map (replaced u) (t ∷ tail)) u.block u.bytes ≡ updated (map (replaced u) tail) u.block u.bytes
    by true same = ap (λ (r : Update). updated (map (replaced u) tail) u.block (cond (eqb r.block u.block) r.bytes u.bytes)) (cond-true _ u t same)
        ∙ ap (updated (map (replaced u) tail) u.block) (cond-true _ u.bytes u.bytes (eq-eqb u.block u.block refl))
    by false same = ap (λ (r : Update). updated (map (replaced u) tail) u.block (cond (eqb r.block u.block) r.bytes u.bytes)) (cond-false _ u t same)
        ∙ ap (updated (map (replaced u) tail) u.block) (cond-false _ t.bytes u.bytes same)

updated-replaced_named : (tail : List Update) (u : Update) (bytes : Bytes) → updates_block tail u.block ≡ true
    → updated (map (replaced u) tail) u.block bytes ≡ u.bytes
updated-replaced_named [] u bytes named = let impossible : ⊥ = cc in absurd impossible
updated-replaced_named (t ∷ tail) u bytes named = by (eqb t.block u.block) refl (updated-replaced_named tail u bytes)
  where
    by : (same : Bool) → eqb t.block u.block ≡ same
        → (updates_block tail u.block ≡ true → updated (map (replaced u) tail) u.block bytes ≡ u.bytes)
        → updated (map (replaced u) (t ∷ tail)) u.block bytes ≡ u.bytes
    by true same rest = ap (λ (r : Update). updated (map (replaced u) tail) u.block (cond (eqb r.block u.block) r.bytes bytes)) (cond-true _ u t same)
        ∙ ap (updated (map (replaced u) tail) u.block) (cond-true _ u.bytes bytes (eq-eqb u.block u.block refl))
        ∙ updated-replaced tail u
    by false same rest = ap (λ (r : Update). updated (map (replaced u) tail) u.block (cond (eqb r.block u.block) r.bytes bytes)) (cond-false _ u t same)
        ∙ ap (updated (map (replaced u) tail) u.block) (cond-false _ t.bytes bytes same)
        ∙ rest (sym (ap (λ (v : Bool). v || updates_block tail u.block) same) ∙ named)

-- each other block has what it had
updated-replaced_other : (tail : List Update) (u : Update) (b : ℕ) (bytes : Bytes) → eqb u.block b ≡ false
    → updated (map (replaced u) tail) b bytes ≡ updated tail b bytes
updated-replaced_other [] u b bytes other = refl
updated-replaced_other (t ∷ tail) u b bytes other =
    ap (updated (map (replaced u) tail) b) (by (eqb t.block u.block) refl)
    ∙ updated-replaced_other tail u b (cond (eqb t.block b) t.bytes bytes) other
  where
    by : (same : Bool) → eqb t.block u.block ≡ same
        → cond (eqb (replaced u t).block b) (replaced u t).bytes bytes ≡ cond (eqb t.block b) t.bytes bytes
    by true same = ap (λ (r : Update). cond (eqb r.block b) r.bytes bytes) (cond-true _ u t same)
        ∙ cond-false _ u.bytes bytes other
        ∙ sym (cond-false _ t.bytes bytes (ap (λ (n : ℕ). eqb n b) (eqb-true t.block u.block same) ∙ other))
    by false same = ap (λ (r : Update). cond (eqb r.block b) r.bytes bytes) (cond-false _ u t same)

-- and the blocks are the same
updates_block-replaced : (tail : List Update) (u : Update) (b : ℕ)
    → updates_block (map (replaced u) tail) b ≡ updates_block tail b
updates_block-replaced [] u b = refl
updates_block-replaced (t ∷ tail) u b = by (eqb t.block u.block) refl (updates_block-replaced tail u b)
  where
    by : (same : Bool) → eqb t.block u.block ≡ same → updates_block (map (replaced u) tail) b ≡ updates_block tail b
        → updates_block (map (replaced u) (t ∷ tail)) b ≡ updates_block (t ∷ tail) b
    by true same rest = ap (λ (r : Update). eqb r.block b || updates_block (map (replaced u) tail) b) (cond-true _ u t same)
        ∙ ap (λ (n : ℕ). eqb n b || updates_block (map (replaced u) tail) b) (sym (eqb-true t.block u.block same))
        ∙ ap (λ (v : Bool). eqb t.block b || v) rest
    by false same rest = ap (λ (r : Update). eqb r.block b || updates_block (map (replaced u) tail) b) (cond-false _ u t same)
        ∙ ap (λ (v : Bool). eqb t.block b || v) rest

All-replaced : (P : Update → Type 0) (tail : List Update) (u : Update) → All P tail → P u → All P (map (replaced u) tail)
All-replaced P [] u all this = all
All-replaced P (t ∷ tail) u all this =
    All-cons P (replaced u t) (map (replaced u) tail)
    (cond_both (eqb t.block u.block) u t P (λ _. this) (λ _. All-head P t tail all))
    (All-replaced P tail u (All-tail P t tail all) this)

-- One update

-- each block has what it has after the tail and the update, one after the other
pub updated-with_update : (tail : List Update) (u : Update) (b : ℕ) (bytes : Bytes)
    → updated (with_update tail u) b bytes ≡ updated (tail ++ u ∷ []) b bytes
updated-with_update tail u b bytes = by_stands (updates_block tail u.block) refl
  where
    by_block : (here : Bool) → eqb u.block b ≡ here → updates_block tail u.block ≡ true
        → updated (map (replaced u) tail) b bytes ≡ cond (eqb u.block b) u.bytes (updated tail b bytes)
    by_block true here stands =
        ap (λ (n : ℕ). updated (map (replaced u) tail) n bytes) (sym (eqb-true u.block b here))
        ∙ updated-replaced_named tail u bytes stands
        ∙ sym (cond-true _ u.bytes (updated tail b bytes) here)
    by_block false here stands =
        updated-replaced_other tail u b bytes here ∙ sym (cond-false _ u.bytes (updated tail b bytes) here)

    by_stands : (stands : Bool) → updates_block tail u.block ≡ stands
        → updated (with_update tail u) b bytes ≡ updated (tail ++ u ∷ []) b bytes
    by_stands true stands = ap (λ (us : List Update). updated us b bytes) (cond-true _ (map (replaced u) tail) (tail ++ u ∷ []) stands)
        ∙ by_block (eqb u.block b) refl stands
        ∙ sym (updated-append tail (u ∷ []) b bytes)
    by_stands false stands = ap (λ (us : List Update). updated us b bytes) (cond-false _ (map (replaced u) tail) (tail ++ u ∷ []) stands)

pub updates_block-with_update : (tail : List Update) (u : Update) (b : ℕ)
    → updates_block (with_update tail u) b ≡ updates_block (tail ++ u ∷ []) b
updates_block-with_update tail u b = by_stands (updates_block tail u.block) refl
  where
    by_block : (here : Bool) → eqb u.block b ≡ here → updates_block tail u.block ≡ true
        → updates_block tail b ≡ (updates_block tail b || (eqb u.block b || false))
    by_block true here stands =
        let now : updates_block tail b ≡ true = ap (updates_block tail) (sym (eqb-true u.block b here)) ∙ stands in
        now ∙ sym (ap (λ (v : Bool). v || (eqb u.block b || false)) now)
    by_block false here stands =
        or_false (updates_block tail b) ∙ sym (ap (λ (v : Bool). updates_block tail b || (v || false)) here)
      where
        or_false : (v : Bool) → v ≡ (v || false)
        or_false true = refl
        or_false false = refl

    by_stands : (stands : Bool) → updates_block tail u.block ≡ stands
        → updates_block (with_update tail u) b ≡ updates_block (tail ++ u ∷ []) b
    by_stands true stands = ap (λ (us : List Update). updates_block us b) (cond-true _ (map (replaced u) tail) (tail ++ u ∷ []) stands)
        ∙ updates_block-replaced tail u b
        ∙ by_block (eqb u.block b) refl stands
        ∙ sym (updates_block-append tail (u ∷ []) b)
    by_stands false stands = ap (λ (us : List Update). updates_block us b) (cond-false _ (map (replaced u) tail) (tail ++ u ∷ []) stands)

-- it takes one more place if its block is not there
pub length-with_update : (tail : List Update) (u : Update)
    → length (with_update tail u) ≡ length tail + cond (not (updates_block tail u.block)) 1 0
length-with_update tail u = by (updates_block tail u.block)
  where
    by : (stands : Bool) → length (cond stands (map (replaced u) tail) (tail ++ u ∷ [])) ≡ length tail + cond (not stands) 1 0
    by true = omega (arith, length-map tail (replaced u))
    by false = length_push tail u

pub All-with_update : (P : Update → Type 0) (tail : List Update) (u : Update) → All P tail → P u → All P (with_update tail u)
All-with_update P tail u all this =
    cond_both (updates_block tail u.block) (map (replaced u) tail) (tail ++ u ∷ []) (All P)
    (λ _. All-replaced P tail u all this) (λ _. All-push P tail u all this)

-- Many

-- absorbing loses nothing: each block has what it has after the tail and the updates, one after the
-- other
pub updated-absorbed : (tail updates : List Update) (b : ℕ) (bytes : Bytes)
    → updated (absorbed tail updates) b bytes ≡ updated (tail ++ updates) b bytes
updated-absorbed tail [] b bytes = ap (λ (us : List Update). updated us b bytes) (sym (append-nil tail))
updated-absorbed tail (u ∷ later) b bytes =
    updated-absorbed (with_update tail u) later b bytes
    ∙ updated-append (with_update tail u) later b bytes
    ∙ ap (updated later b) (updated-with_update tail u b bytes)
    ∙ sym (updated-append (tail ++ u ∷ []) later b bytes)
    ∙ ap (λ (us : List Update). updated us b bytes) (append_assoc tail (u ∷ []) later)

-- and no update but theirs
pub All-absorbed : (P : Update → Type 0) (tail updates : List Update) → All P tail → All P updates → All P (absorbed tail updates)
All-absorbed P tail [] all new = all
All-absorbed P tail (u ∷ later) all new =
    All-absorbed P (with_update tail u) later (All-with_update P tail u all (All-head P u later new)) (All-tail P u later new)

-- it takes no fewer places than the tail
pub length-absorbed_ge : (tail updates : List Update) → length tail ≤ length (absorbed tail updates)
length-absorbed_ge tail [] = omega arith
length-absorbed_ge tail (u ∷ later) = omega (arith, length-absorbed_ge (with_update tail u) later, length-with_update tail u)

fresh_count-cons : (tail : List Update) (v : Update) (later : List Update)
    → fresh_count tail (v ∷ later) ≡ cond (not (updates_block tail v.block)) 1 0 + fresh_count tail later
fresh_count-cons tail v later = sum_by-cons (λ w. cond (not (updates_block tail w.block)) 1 0) v later

-- fewer updates are of blocks that are not there, if more blocks are there
fresh_count-with_update : (tail : List Update) (u : Update) (later : List Update)
    → fresh_count (with_update tail u) later ≤ fresh_count tail later
fresh_count-with_update tail u [] = omega arith
fresh_count-with_update tail u (v ∷ later) =
    omega (arith, fresh_count-cons tail v later, fresh_count-cons (with_update tail u) v later, fresh_count-with_update tail u later, by (updates_block tail v.block) (updates_block (with_update tail u) v.block) kept)
  where
    by : (old new : Bool) → (old ≡ true → new ≡ true) → cond (not new) 1 0 ≤ cond (not old) 1 0
    by true true kept = omega arith
    by true false kept = let wrong : false ≡ true = kept refl in let impossible : ⊥ = cc in absurd impossible
    by false true kept = omega arith
    by false false kept = omega arith

    kept : updates_block tail v.block ≡ true → updates_block (with_update tail u) v.block ≡ true
    kept stands = updates_block-with_update tail u v.block
        ∙ updates_block-append tail (u ∷ []) v.block
        ∙ ap (λ (w : Bool). w || updates_block (u ∷ []) v.block) stands

-- and at most as many more as there are updates of blocks that are not there
pub length-absorbed_le : (tail updates : List Update) → length (absorbed tail updates) ≤ length tail + fresh_count tail updates
length-absorbed_le tail [] = omega arith
length-absorbed_le tail (u ∷ later) =
    omega (arith, fresh_count-cons tail u later, length-absorbed_le (with_update tail u) later, length-with_update tail u, fresh_count-with_update tail u later)

-- Logs

-- the groups are as they were
pub head_of-appended : (log : LogState) (updates : List Update) → log.start ≤ log.cut → log.cut ≤ next_position log
    → head_of (appended log updates) ≡ head_of log
head_of-appended log updates from to =
    take_at (head_of log) (absorbed (tail_of log) updates) (log.cut - log.start) (length-take-le (log.cut - log.start) log.updates (omega arith))

pub tail_of-appended : (log : LogState) (updates : List Update) → log.start ≤ log.cut → log.cut ≤ next_position log
    → tail_of (appended log updates) ≡ absorbed (tail_of log) updates
tail_of-appended log updates from to =
    drop_at (head_of log) (absorbed (tail_of log) updates) (log.cut - log.start) (length-take-le (log.cut - log.start) log.updates (omega arith))

-- each block has what it has after all updates of the log and these, one after the other
pub updated-appended : (log : LogState) (updates : List Update) (b : ℕ) (bytes : Bytes)
    → updated (appended log updates).updates b bytes ≡ updated (log.updates ++ updates) b bytes
updated-appended log updates b bytes =
    updated-append (head_of log) (absorbed (tail_of log) updates) b bytes
    ∙ updated-absorbed (tail_of log) updates b (updated (head_of log) b bytes)
    ∙ updated-append (tail_of log) updates b (updated (head_of log) b bytes)
    ∙ ap (updated updates b) (sym (updated-split (log.cut - log.start) log.updates b bytes))
    ∙ sym (updated-append log.updates updates b bytes)

pub All-appended : (P : Update → Type 0) (log : LogState) (updates : List Update) → All P log.updates → All P updates
    → All P (appended log updates).updates
All-appended P log updates old new =
    All-append P (head_of log) (absorbed (tail_of log) updates)
    (All-take P (log.cut - log.start) log.updates old)
    (All-absorbed P (tail_of log) updates (All-drop P (log.cut - log.start) log.updates old) new)

pub next_of-appended : (log : LogState) (updates : List Update)
    → next_position (appended log updates) + length (tail_of log) ≡ next_position log + length (absorbed (tail_of log) updates)
next_of-appended log updates =
    omega (
      arith,
      length-append (head_of log) (absorbed (tail_of log) updates),
      length-append (head_of log) (tail_of log),
      ap (λ (us : List Update). length us) (take-append-drop (log.cut - log.start) log.updates),
    )

-- it grows by no more than the fresh ones, nor than its room
pub next_of-appended_le : (log : LogState) (updates : List Update)
    → next_position (appended log updates) ≤ next_position log + fresh_count (tail_of log) updates
next_of-appended_le log updates = omega (arith, length-absorbed_le (tail_of log) updates, next_of-appended log updates)

pub next_of-taken_le : (log : LogState) (updates : List Update) → CanTake log updates
    → next_position (appended log updates) ≤ next_position log + log.room
next_of-taken_le log updates can = omega (arith, can.room, next_of-appended log updates)

-- the condition of an append, by the number of the fresh updates
pub can_take_fresh : (log : LogState) (updates : List Update) → AreOnDisk log.blocks updates
    → fresh_count (tail_of log) updates ≤ log.room → next_position log + fresh_count (tail_of log) updates < 2 ^ 62
    → CanTake log updates
can_take_fresh log updates on_disk room below = record {
  on_disk = on_disk;
  room = omega (arith, length-absorbed_le (tail_of log) updates);
  below = omega (arith, next_of-appended_le log updates);
}
