use Rattle.std.proofs.Common.{◌≤◌, ap, sym, subst, arith, length, List}
use mathlib.Core.List.{IsPrefix}
use Rattle.journal_world.specs.Histories.{Entry}
use Rattle.journal_world.proofs.Prefixes.{IsPrefix-shorter, IsPrefix-whole}
use Rattle.journal_history.proofs.front.Front.see.Goals as goal

pub returns-then-self-other-clause-this : goal.returns-then-self-other-clause-this
returns-then-self-other-clause-this g c =
    let both = c.learn.new.self.log in
    let this : IsPrefix c.self.inside.seen.log both = subst (λ (h : List Entry). IsPrefix h both) (ap (λ s. s.log) c.again-both.ensures) c.learn.ensures.2 in
    let less : length c.self.inside.seen.log ≤ length c.other.inside.seen.log = omega (arith, c.self.invariant.counted, c.other.invariant.counted) in
    rw (c.drop.view_is, c.again.ensures, ← c.self.view_is, ← c.other.view_is) (IsPrefix-shorter c.self.inside.seen.log c.other.inside.seen.log both this c.learn.ensures.3 less)

pub returns-clause-that : goal.returns-clause-that
returns-clause-that g c =
    let both = c.learn.new.self.log in
    let this : IsPrefix c.self.inside.seen.log both = subst (λ (h : List Entry). IsPrefix h both) (ap (λ s. s.log) c.again-both.ensures) c.learn.ensures.2 in
    let less : length c.other.inside.seen.log ≤ length c.self.inside.seen.log = omega (arith, c.self.invariant.counted, c.other.invariant.counted) in
    rw (← c.self.view_is, ← c.other.view_is) (IsPrefix-shorter c.other.inside.seen.log c.self.inside.seen.log both c.learn.ensures.3 this less)

pub returns-clause-whole : goal.returns-clause-whole
returns-clause-whole g c le =
    let both = c.learn.new.self.log in
    let mine = c.self.inside.seen.log in
    let theirs = c.other.inside.seen.log in
    let this : IsPrefix mine both = subst (λ (h : List Entry). IsPrefix h both) (ap (λ s. s.log) c.again-both.ensures) c.learn.ensures.2 in
    let less : length mine ≤ length theirs = subst (λ (h : List Entry). length mine ≤ length h) (sym c.other.view_is) (subst (λ (h : List Entry). length h ≤ length c.args.other.now) (sym c.self.view_is) le) in
    let more : length theirs ≤ length mine = omega (arith, c.self.invariant.counted, c.other.invariant.counted) in
    rw (← c.self.view_is, ← c.other.view_is) (IsPrefix-whole mine theirs (IsPrefix-shorter mine theirs both this c.learn.ensures.3 less) more)
