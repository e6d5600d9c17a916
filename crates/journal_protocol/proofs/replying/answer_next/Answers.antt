use Rattle.std.proofs.Common.{◌≡◌, ◌<◌, ◌≤◌, ◌++◌, ◌∷◌, [], List, ℕ, length, take, refl, sym, ap, ◌∙◌, arith}
use Rattle.std.proofs.lemmas.List.{length-drop, take-append-drop}
use Rattle.std.proofs.lemmas.Result.{IfOk-weaker, on_err_weaker}
use Rattle.journal_rpc.specs.Stream.{Stream, after}
use Rattle.journal_protocol.proofs.Serving.{takes_some}
use Rattle.journal_protocol.proofs.Turning.{if_ok, none_behind, lost_at, next_fed}
use Rattle.journal_protocol.proofs.replying.answer_next.Goals as goal

pub returns-in-Some-clause-lost : goal.returns-in-Some-clause-lost
returns-in-Some-clause-lost g c =
    let cut = c.in-Some.ensures.split in
    on_err_weaker c.answer_record.result
    (λ lost history. lost_at _ _ c.args.piece.now.rest.now cut.taken _ c.args.records.now c.in-Some.field-0.record.now [] _ _ cut.is
    (ap (λ (t : Stream). t.records) cut.comes ∙ ap (λ (rs : List (List ℕ)). rs ++ c.in-Some.field-0.record.now ∷ []) c.requires.none) (lost history)) c.answer_record.ensures.lost

pub returns-in-Err-NoMemory-clause-lost : goal.returns-in-Err-NoMemory-clause-lost
returns-in-Err-NoMemory-clause-lost g c = λ history.
    record { text = []; answered = []; left = (after c.args.records.now c.args.piece.now.rest.now).records; records = refl; replied = (refl, refl) }

pub returns-clause-answered : goal.returns-clause-answered
returns-clause-answered g c =
    let left = c.reuse.new.self in
    let bytes = c.as_bytes.result.now in
    let given_back : c.feed.new.self ≡ record left { records = bytes ∷ left.records } =
    c.in-Some-next.ensures ∙ ap (λ (t : Stream). record t { records = c.in-Some-next.record ∷ t.records }) (sym c.reuse.ensures)
    ∙ ap (λ (r : List ℕ). record left { records = r ∷ left.records }) (sym c.as_bytes.ensures) in
    let few : length c.args.records.now.records ≤ 1 = omega (arith, ap (λ (rs : List (List ℕ)). length rs) c.requires.none) in
    IfOk-weaker c.answer_record-outcome.result _ _
    (λ outcome held. next_fed _ _ _ _ outcome c.args.piece.now.rest.now _ c.in-Ok.taken c.args.records.now c.feed.new.self left bytes _ _ c.args.batch.now _ _ _ c.split_at.ensures.back c.in-Ok.ensures.ok.1 given_back
    (none_behind c.feed.new.self left bytes given_back (c.in-Ok.ensures.few few)) held) c.answer_record-outcome.ensures.answered

pub returns-clause-shorter : goal.returns-clause-shorter
returns-clause-shorter g c =
    let piece = c.args.piece.now.rest.now in
    let some = takes_some c.args.records.now c.feed.new.self c.in-Ok.taken piece c.requires.none c.requires.some c.in-Ok.ensures.ok.1 c.in-Ok.ensures.all in
    let shorter : length c.split_at.result.1.now < length piece = omega (arith, some, c.in-Ok.ensures.ok.0, ap (λ (t : List ℕ). length t) c.split_at.ensures.back, length-drop c.in-Ok.taken piece) in
    if_ok c.answer_record-outcome.result shorter

pub returns-clause-lost : goal.returns-clause-lost
returns-clause-lost g c =
    let left = c.reuse.new.self in
    let bytes = c.as_bytes.result.now in
    let given_back : c.feed.new.self ≡ record left { records = bytes ∷ left.records } =
    c.in-Some-next.ensures ∙ ap (λ (t : Stream). record t { records = c.in-Some-next.record ∷ t.records }) (sym c.reuse.ensures)
    ∙ ap (λ (r : List ℕ). record left { records = r ∷ left.records }) (sym c.as_bytes.ensures) in
    on_err_weaker c.answer_record-outcome.result
    (λ lost history. lost_at _ _ c.args.piece.now.rest.now (take c.in-Ok.taken c.args.piece.now.rest.now) c.split_at.result.1.now c.args.records.now bytes left.records _ _
    (sym (take-append-drop c.in-Ok.taken c.args.piece.now.rest.now) ∙ ap (λ (t : List ℕ). take c.in-Ok.taken c.args.piece.now.rest.now ++ t) (sym c.split_at.ensures.back))
    (ap (λ (t : Stream). t.records) (sym c.in-Ok.ensures.ok.1 ∙ given_back)) (lost history)) c.answer_record-outcome.ensures.lost
