-- Moments of two calls, one after the other.
use Rattle.std.proofs.Common.{◌≡◌, ◌⊎◌, inl, inr, ⊎_elim, List, [], ◌∷◌, ◌++◌, sym, ap, ◌∙◌, append_assoc}
use Rattle.journal_block.specs.Block.{Bytes}
use Rattle.journal_disk.specs.Disks.{DiskEvent, Past}
use Rattle.journal_disk.specs.Images.{EveryImage}
use Rattle.journal_disk.specs.Moments.{Extends, LeavesOnly}

-- of two ends of a list one is an end of the other
one_is_longer : (xs zs ys ws : List DiskEvent) → xs ++ ys ≡ zs ++ ws
    → ((t : List DiskEvent) × (ys ≡ t ++ ws)) ⊎ ((t : List DiskEvent) × (ws ≡ t ++ ys))
one_is_longer [] zs ys ws e = inl (zs, e)
one_is_longer (x ∷ xs) [] ys ws e = inr (x ∷ xs, sym e)
one_is_longer (x ∷ xs) (z ∷ zs) ys ws e = one_is_longer xs zs ys ws (ap tail e)
  where
    tail : List DiskEvent → List DiskEvent
    tail [] = []
    tail (y ∷ more) = more

-- of two pasts that extend one, where one has all the events of the other, it extends it
extends_it : (a p q : Past) (since : List DiskEvent) → Extends a p → Extends a q → q.events ≡ since ++ p.events → Extends p q
extends_it a p q since to_p to_q same = record {
  since = since;
  grown = to_q.grown ∙ (λ i. record (sym to_p.grown i) { events = (sym (ap (λ (r : Past). r.events) to_q.grown) ∙ same) i });
}

extends_then : (a b c : Past) → Extends a b → Extends b c → Extends a c
extends_then a b c first second = record {
  since = second.since ++ first.since;
  grown = second.grown
      ∙ (λ i. record (first.grown i) { events = second.since ++ (first.grown i).events })
      ∙ (λ i. record a { events = sym (append_assoc second.since first.since a.events) i });
}

-- what holds of each image at each moment of one call, and of the next, holds at each moment of
-- both
pub leaves_then : (a b c : Past) (Q : List Bytes → Type 0) → LeavesOnly a b Q → LeavesOnly b c Q → LeavesOnly a c Q
leaves_then a b c Q first second = record {
  extends = extends_then a b c first.extends second.extends;
  each = at_moment;
}
  where
    events : Past → List DiskEvent
    events p = p.events

    at_moment : (m : Past) → Extends a m → Extends m c → EveryImage m Q
    at_moment m from to = ⊎_elim
        (λ (early : (t : List DiskEvent) × (b.events ≡ t ++ m.events)). first.each m from (extends_it a m b early.0 from first.extends early.1))
        (λ (late : (t : List DiskEvent) × (m.events ≡ t ++ b.events)). second.each m (extends_it a b m late.0 first.extends from late.1) to)
        (one_is_longer second.extends.since to.since b.events m.events (sym (ap events second.extends.grown) ∙ ap events to.grown))
