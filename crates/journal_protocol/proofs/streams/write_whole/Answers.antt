use Rattle.std.proofs.Common.{◌≡◌, Bor, ℕ, ◌-◌, List, ◌++◌, length, take, drop, sym, ap, ◌∙◌, append_assoc, take-append-drop}
use Rattle.std.proofs.lemmas.List.{take_rest}
use Rattle.std.proofs.KnownBytes.{Appends-trans, Appends-kept}
use Rattle.journal_protocol.proofs.streams.write_whole.Goals as goal
use Rattle.journal_protocol.proofs.streams.write_whole.Goals.{in-Ok, in-Err+else-ne}

moves_front : (all done rest : List ℕ) (n : ℕ) → all ≡ done ++ rest → all ≡ (done ++ take n rest) ++ take (length rest - n) (drop n rest)
moves_front all done rest n e =
    e ∙ ap (λ l. done ++ l) (sym (take-append-drop n rest)) ∙ sym (append_assoc done (take n rest) (drop n rest)) ∙ ap (λ l. (done ++ take n rest) ++ l) (sym (take_rest rest n))

pub loop-preserved : goal.loop-preserved
loop-preserved g c =
    let i = c.loop.invariant in
    elim c.match-write.branch [
      | in-Ok w ↦ (i.0 ++ take w.in-Ok.n c.loop.rest.now, moves_front _ i.0 c.loop.rest.now w.in-Ok.n i.1 ∙ ap (λ (r : Bor (List ℕ)). (i.0 ++ take w.in-Ok.n c.loop.rest.now) ++ r.now) (sym w.rest-is), Appends-trans _ _ _ _ _ i.2 w.in-Ok.ensures.bytes)
      | in-Err+else-ne w ↦ (i.0, i.1 ∙ ap (λ (r : Bor (List ℕ)). i.0 ++ r.now) (sym w.rest-is), Appends-kept _ _ _ _ i.2 w.in-Err.ensures.bytes)
    ]
