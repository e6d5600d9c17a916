use Rattle.std.proofs.Common.{◌≡◌, ◌∙◌, ◌++◌, ◌∷◌, ◌-◌, [], ap, length, take, drop, subst, sym, arith}
use Rattle.std.proofs.lemmas.List.{length-drop, take-append-drop}
use Rattle.journal_protocol.specs.declared.reply_batch.BatchEntry.{BatchEntry}
use Rattle.journal_protocol.specs.declared.reply_batch.ReplyBatch.{ReplyBatch}
use Rattle.journal_protocol.specs.ReplyBatches.{IsCovered}
use Rattle.journal_protocol.proofs.Sends.{order_free, order_waits, none_latest, some_latest, same_latest, latest_below}
use Rattle.journal_protocol.proofs.reply_batch.ReplyBatch.add_reply.Goals as goal
use Rattle.journal_protocol.proofs.reply_batch.ReplyBatch.add_reply.Goals.{in-None, then-is_none, else-is_none, in-Some}

pub returns-clause-in_order : goal.returns-clause-in_order
returns-clause-in_order g c = λ o.
    let held = c.args.self.now in
    let before = c.args.before in
    let others : ReplyBatch _ _ = record held { bytes = take before held.bytes } in
    let reply = drop before held.bytes in
    let e : BatchEntry _ = record { length = c.len.result - before; wait = c.match-wait.wait } in
    let long : c.len.result - before ≡ length reply = omega (arith, c.len.ensures, length-drop before held.bytes) in
    let whole = sym (take-append-drop before held.bytes) in
    elim c.match-wait.branch [
      | in-None w ↦
          elim w.if-is_none.branch [
            | then-is_none v ↦
                let self = w.self-is ∙ v.self-is in
                order_free g.R.Counted.commits others _ e reply o (c.push_reserved.ensures.items ∙ ap (λ (h : ReplyBatch _ _). h.replies.items ++ e ∷ []) self) (ap (λ (h : ReplyBatch _ _). h.bytes) self ∙ whole) long
                (none_latest _ _ w.is_none.ensures v.if-is_none.true) (ap (λ (h : ReplyBatch _ _). h.latest) self ∙ none_latest _ _ w.is_none.ensures v.if-is_none.true) w.wait-is
                (ap (λ (h : ReplyBatch _ _). h.free) self ∙ v.len-self.ensures ∙ ap (λ (h : ReplyBatch _ _). length h.bytes) (sym self))
            | else-is_none v ↦
                let self = w.self-is ∙ v.self-is in
                let latest = some_latest _ _ w.is_none.ensures v.if-is_none.false in
                order_waits g.R.Counted.commits others _ e reply o (c.push_reserved.ensures.items ∙ ap (λ (h : ReplyBatch _ _). h.replies.items ++ e ∷ []) self) (ap (λ (h : ReplyBatch _ _). h.bytes) self ∙ whole) long
                latest.0 (ap (λ (h : ReplyBatch _ _). h.latest) self ∙ latest.1) (ap (λ (h : ReplyBatch _ _). h.free) self) (subst (IsCovered (g.R.Counted.commits latest.0)) (sym w.wait-is) tt) (λ l is. same_latest g.R.Counted.commits held.latest latest.0 l latest.1 is)
          ]
      | in-Some w ↦
          order_waits g.R.Counted.commits others _ e reply o (c.push_reserved.ensures.items ∙ ap (λ (h : ReplyBatch _ _). h.replies.items ++ e ∷ []) w.self-is) (ap (λ (h : ReplyBatch _ _). h.bytes) w.self-is ∙ whole) long
          w.later.result (ap (λ (h : ReplyBatch _ _). h.latest) w.self-is) (ap (λ (h : ReplyBatch _ _). h.free) w.self-is) (subst (IsCovered (g.R.Counted.commits w.later.result)) (sym w.wait-is) (omega (arith, w.later.ensures.covers, w.stable_commits-commits.ensures)))
          (latest_below g.R.Counted.commits w.take.result held.latest (g.R.Counted.commits w.later.result) w.take.ensures.value w.later.ensures.others)
    ]
