use Rattle.std.proofs.Common.{◌++◌, [], List, ℕ, length, take, ap, sym, subst, ◌∙◌, refl, arith, append_assoc}
use Rattle.std.proofs.lemmas.List.{take-append-drop}
use Rattle.journal_rpc.specs.Stream.{Stream, after, ExtendsStream}
use Rattle.journal_rpc.proofs.Streams.{after_none, after-append, Extends-refl, Extends-trans, Extends-after, on_err}
use Rattle.journal_rpc.proofs.records.Records.take_in.Goals as goal

pub loop-self-init : goal.loop-self-init
loop-self-init c = record { told = ([], refl, sym (after_none c.args.self.now [] refl)); few = λ few. few; long = λ long room. room; grown = Extends-refl c.args.self.now }

pub returns-in_err-take_front-clause-err : goal.returns-in_err-take_front-clause-err
returns-in_err-take_front-clause-err c =
    on_err c.from_residual.result _ (Extends-trans _ _ _ c.loop-self.invariant.grown c.in_err-take_front.ensures.err)

pub loop-self-preserved : goal.loop-self-preserved
loop-self-preserved c =
    let i = c.loop-self.invariant in
    let n = c.in_ok-take_front.field-0 in
    let rest = c.loop-self.rest.now in
    let is = c.in_ok-take_front.ensures.ok.2 in
    record {
      told = (
        i.told.0 ++ take n rest,
        i.told.1 ∙ ap (λ (r : List ℕ). i.told.0 ++ r) (sym (take-append-drop n rest) ∙ ap (λ (r : List ℕ). take n rest ++ r) (sym c.split_at.ensures.back)) ∙ sym (append_assoc i.told.0 (take n rest) c.split_at.result.1.now),
        is ∙ ap (λ (s : Stream). after s (take n rest)) i.told.2 ∙ sym (after-append c.args.self.now i.told.0 (take n rest)),
      );
      few = λ few. omega (arith, c.in_ok-take_front.ensures.one, ap (λ (s : Stream). length s.records) c.self.view_is, c.len.ensures, c.if-len-lt-WAITING_RECORDS.true);
      long = λ long room. omega (arith, ap (λ (rs : List (List ℕ)). length rs) (c.in_ok-take_front.ensures.long long), ap (λ (s : Stream). length s.records) c.self.view_is, c.len.ensures, c.if-len-lt-WAITING_RECORDS.true);
      grown = Extends-trans _ _ _ i.grown (subst (λ (s : Stream). ExtendsStream c.loop-self.self s) (sym is) (Extends-after c.loop-self.self (take n rest)));
    }
