use Rattle.std.proofs.Common.{◌≡◌, ◌≢◌, ◌≤◌, ℕ, ◌<◌, List, length, take, get_or, refl, ap, sym, subst, Result, Ok, Err, ◌++◌, ◌∙◌, arith}
use Rattle.journal_rpc.specs.Stream.{Stream, after, waiting_limit, front_taken}
use Rattle.journal_rpc.specs.Cuts.{SpellsStream}
use Rattle.journal_rpc.specs.declared.records.FeedRefused.{FeedRefused}
use Rattle.journal_rpc.specs.declared.records.FeedRefused.TheVariants.{NoMemory}
use Rattle.journal_rpc.proofs.Parting.{all_parts, front_fits}
use Rattle.journal_rpc.proofs.Streams.{all_came}
use Rattle.journal_rpc.proofs.records.Records.feed.Goals as goal
use Rattle.journal_rpc.proofs.records.Records.feed.Goals.{in-TooLong, in_default-part}

goes_back : (c : goal.After-go_back) → c.go_back.new.self ≡ c.args.self.now
goes_back c =
    c.go_back.ensures c.args.self.now
    (omega (arith, ap (λ (s : Stream). length s.records) c.self.view_is, c.len-records.ensures))
    (omega (arith, ap (λ (s : Stream). length s.begun) c.self.view_is, c.len-bytes.ensures))
    (ap (λ (s : Stream). s.part) (sym c.self.view_is))
    c.in_default.ensures.err

pub returns-in_default-clause-no_memory : goal.returns-in_default-clause-no_memory
returns-in_default-clause-no_memory c = λ _. goes_back c

pub returns-in_default-clause-few : goal.returns-in_default-clause-few
returns-in_default-clause-few c = λ few. subst (λ (s : Stream). length s.records ≤ waiting_limit) (sym (goes_back c)) few

pub returns-in_default-clause-spelled : goal.returns-in_default-clause-spelled
returns-in_default-clause-spelled c = λ other. absurd (other refl)

pub returns-clause-too_long : goal.returns-clause-too_long
returns-clause-too_long c =
    elim c.match-self.branch [
      | in-TooLong w ↦ λ _.
          let long = ap (λ (s : Stream). s.part) (sym c.self-2.view_is) ∙ w.in-TooLong.is in
          (all_came c.args.self.now c.take_in.new.self c.in-Ok.taken c.args.piece.now c.in-Ok.ensures.ok.1 long, long)
      | in_default-part w ↦ λ long. absurd (other _ _ _ w.result-is long)
    ]
  where
    other : (r : Result ℕ FeedRefused) (n : ℕ) (e : FeedRefused) → r ≡ Ok n → r ≡ Err e → ⊥
    other r n e ok err = absurd cc

pub returns-clause-room : goal.returns-clause-room
returns-clause-room c =
    elim c.match-self.branch [
      | in-TooLong w ↦ λ _. c.in-Ok.ensures.long (ap (λ (s : Stream). s.part) (sym c.self-2.view_is) ∙ w.in-TooLong.is)
      | in_default-part w ↦ λ long. absurd (other _ _ _ w.result-is long)
    ]
  where
    other : (r : Result ℕ FeedRefused) (n : ℕ) (e : FeedRefused) → r ≡ Ok n → r ≡ Err e → ⊥
    other r n e ok err = absurd cc

pub returns-clause-spelled : goal.returns-clause-spelled
returns-clause-spelled c =
    elim c.match-self.branch [
      | in-TooLong w ↦
          let long = ap (λ (s : Stream). s.part) (sym c.self-2.view_is) ∙ w.in-TooLong.is in
          let is = all_came c.args.self.now c.take_in.new.self c.in-Ok.taken c.args.piece.now c.in-Ok.ensures.ok.1 long in
          of c.args.piece.now (ap (λ (r : Result ℕ FeedRefused). front_taken r c.args.piece.now) w.result-is) (λ i. omega (arith, c.type_inv.piece i)) is
      | in_default-part w ↦
          of (take c.in-Ok.taken c.args.piece.now) (ap (λ (r : Result ℕ FeedRefused). front_taken r c.args.piece.now) w.result-is) (front_fits c.in-Ok.taken c.args.piece.now (λ i. omega (arith, c.type_inv.piece i))) c.in-Ok.ensures.ok.1
    ]
  where
    of : (front : List ℕ) → front_taken c.match-self.result c.args.piece.now ≡ front → ((i : ℕ) → get_or front i 0 < 256) → c.take_in.new.self ≡ after c.args.self.now front
        → c.match-self.result ≢ Err NoMemory → (bytes : List ℕ) → SpellsStream bytes c.args.self.now → SpellsStream (bytes ++ front_taken c.match-self.result c.args.piece.now) c.take_in.new.self
    of front taken fits is other bytes h =
        subst (λ (f : List ℕ). SpellsStream (bytes ++ f) c.take_in.new.self) (sym taken)
        (subst (λ (s : Stream). SpellsStream (bytes ++ front) s) (sym is) (all_parts bytes c.args.self.now front fits h))
