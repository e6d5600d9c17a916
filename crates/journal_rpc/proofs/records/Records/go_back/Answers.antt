use Rattle.std.proofs.Common.{◌≡◌, ℕ, length, List, ◌++◌, ◌∷◌, [], subst, sym, ap, ◌∙◌, arith}
use Rattle.std.specs.Prelude.{take}
use Rattle.std.proofs.lemmas.List.{length-append}
use Rattle.journal_rpc.specs.Stream.{Stream, ExtendsStream}
use Rattle.journal_rpc.proofs.Streams.{stream}
use Rattle.journal_rpc.proofs.Restoring.{one_back, all_back}
use Rattle.journal_rpc.proofs.records.Records.go_back.Goals as goal

pub loop-self-init : goal.loop-self-init
loop-self-init c = λ old len h. subst (λ (s : Stream). ExtendsStream old s) (sym c.self.view_is) h

pub loop-self-preserved-in-Some : goal.loop-self-preserved-in-Some
loop-self-preserved-in-Some c = λ old len h.
    let inside = c.loop-self.self-inside in
    let items : inside.waiting.items ≡ c.pop_back.new.self.items ++ c.record.inside.bytes.items ∷ [] =
    c.in-Some.ensures.items ∙ ap (λ (r : List ℕ). c.pop_back.new.self.items ++ r ∷ []) (sym c.record.view_is) in
    one_back old inside.marking c.pop_back.new.self.items c.record.inside.bytes.items inside.begun.items inside.part inside.part
    (omega (arith, len, c.loop-self-test.true, c.len.ensures, ap (λ (rs : List (List ℕ)). length rs) items, length-append c.pop_back.new.self.items (c.record.inside.bytes.items ∷ [])))
    (subst (λ (rs : List (List ℕ)). ExtendsStream old (stream inside.marking rs inside.begun.items inside.part)) items (c.loop-self.invariant old len h))

pub returns : goal.returns
returns c = λ old len bytes part h.
    let inside = c.loop-self.self-inside in
    ap (λ (b : List ℕ). stream inside.marking inside.waiting.items b c.args.part) (c.truncate.ensures.items ∙ ap (λ k. take k inside.begun.items) (sym bytes))
    ∙ ap (λ p. stream inside.marking inside.waiting.items (take (length old.begun) inside.begun.items) p) (sym part)
    ∙ all_back old inside.marking inside.waiting.items inside.begun.items inside.part (omega (arith, c.loop-self-test.false, c.len.ensures)) (c.loop-self.invariant old len h)
