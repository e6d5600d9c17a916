-- Which region has a block.
use Rattle.std.proofs.Common.{◌≡◌, ◌<◌, ◌≤◌, ℕ, zero, suc, List, [], ◌∷◌, Option, Some, length, drop, get_or, nat_le, cond, true, arith, ap, ◌∙◌}
use Rattle.std.proofs.lemmas.Bool.Decides.{nat_tests}
use Rattle.journal_world.specs.declared.address.Kind.{Kind}
use Rattle.journal_world.specs.declared.layout.Region.{Region}
use Rattle.journal_world.specs.Addresses.{kind_among}

-- The last region that begins at the block or below it has the block, since those behind it change
-- nothing
pub last_has : (regions : List Region) (block i : ℕ) (d : Region) (found : Option Kind) → i < length regions → (get_or regions i d).first ≤ block
    → ((f : Option Kind) → kind_among (drop (suc i) regions) block f ≡ f) → kind_among regions block found ≡ Some (get_or regions i d).kind
last_has [] block i d found inside below others = absurd (omega (inside, arith))
last_has (r ∷ rs) block zero d found inside below others =
    let here : nat_le r.first block ≡ true = grind (arith, nat_tests, below) in
    ap (λ b. kind_among rs block (cond b (Some r.kind) found)) here ∙ others (Some r.kind)
last_has (r ∷ rs) block (suc i) d found inside below others =
    last_has rs block i d (cond (nat_le r.first block) (Some r.kind) found) (omega (inside, arith)) below others
