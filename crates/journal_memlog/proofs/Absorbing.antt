-- Updates that are put into the tail one at a time.
use Rattle.std.proofs.Common.{◌≡◌, ℕ, ◌+◌, ◌-◌, ◌<◌, ◌≤◌, ◌^◌, List, [], ◌∷◌, ◌++◌, length, sym, ap, ◌∙◌, arith, subst, length-append}
use Rattle.std.proofs.lemmas.List.{take-append-drop}
use Rattle.std.proofs.lemmas.List.Elements.{All-head, All-tail, All-cons, All-nil}
use Rattle.journal_block.specs.declared.update.Update.{Update}
use Rattle.journal_memlog.specs.Logs.{LogState, IsMemLog, next_position, head_of, tail_of, with_update, absorbed, appended, CanTake}
use Rattle.journal_memlog.specs.Laws.{length-absorbed_ge, head_of-appended, tail_of-appended}

-- no updates change nothing
pub appended_none : (log : LogState) → appended log [] ≡ log
appended_none log =
    ap (λ (us : List Update). record log { updates = us; room = log.room + length (tail_of log) - length (tail_of log) })
    (take-append-drop (log.cut - log.start) log.updates)
    ∙ ap (λ (n : ℕ). record log { room = n }) room_is
  where
    room_is : log.room + length (tail_of log) - length (tail_of log) ≡ log.room
    room_is = omega arith

module _ (log : LogState) (u : Update) (rest : List Update) (sound : IsMemLog log) (can : CanTake log (u ∷ rest)) where
  -- the log with the first update in it
  abbrev one : LogState
  one = appended log (u ∷ [])

  abbrev tail : List Update
  tail = with_update (tail_of log) u

  from : log.start ≤ log.cut
  from = omega (arith, sound.bounds.start_to_logged, sound.bounds.logged_to_cut)

  head_is : head_of one ≡ head_of log
  head_is = head_of-appended log (u ∷ []) from sound.bounds.cut_to_next

  tail_is : tail_of one ≡ tail
  tail_is = tail_of-appended log (u ∷ []) from sound.bounds.cut_to_next

  -- the first update takes no more places than all
  fewer : length tail ≤ length (absorbed tail rest)
  fewer = length-absorbed_ge tail rest

  -- the others come after it
  pub appended_more : appended one rest ≡ appended log (u ∷ rest)
  appended_more =
      (λ i. record log { updates = head_is i ++ absorbed (tail_is i) rest; room = one.room + length (tail_is i) - length (absorbed (tail_is i) rest) })
      ∙ ap (λ (n : ℕ). record log { updates = head_of log ++ absorbed tail rest; room = n }) room_is
    where
      room_is : one.room + length tail - length (absorbed tail rest) ≡ log.room + length (tail_of log) - length (absorbed tail rest)
      room_is = omega (arith, can.room, fewer)

  pub can_take_one : CanTake log (u ∷ [])
  can_take_one = record {
    on_disk = All-cons (λ v. v.block < log.blocks) u [] (All-head (λ v. v.block < log.blocks) u rest can.on_disk) (All-nil (λ v. v.block < log.blocks));
    room = omega (arith, can.room, fewer);
    below = omega (arith, can.below, fewer, length-append (head_of log) tail, length-append (head_of log) (absorbed tail rest));
  }

  pub can_take_rest : CanTake one rest
  can_take_rest = record {
    on_disk = All-tail (λ v. v.block < log.blocks) u rest can.on_disk;
    room = subst (λ (t : List Update). length (absorbed t rest) ≤ length t + one.room) (sym tail_is) (omega (arith, can.room, fewer));
    below = subst (λ (l : LogState). next_position l < 2 ^ 62) (sym appended_more) can.below;
  }
