use Rattle.std.proofs.Common.{◌≡◌, ◌+◌, vec_len, vec_capacity}
use Rattle.journal_alloc.specs.Numbers.{TakesMany, free_count}
use Rattle.journal_alloc.proofs.alloc.Alloc.take_many.Given as goal

abbrev pub invariant-loop : goal.invariant-loop
invariant-loop l =
    TakesMany l.counter l.fn.self l.self l.fn.out.items l.out.items × (free_count l.self + l.counter ≡ free_count l.fn.self)
    × (vec_len l.out ≡ vec_len l.fn.out + l.counter) × (vec_capacity l.out ≡ vec_capacity l.fn.out)
