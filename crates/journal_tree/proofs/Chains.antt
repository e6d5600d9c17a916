-- Listings over several calls miss nothing.
use Rattle.std.proofs.Common.{◌≡◌, ℕ, ◌<◌, List, [], ◌∷◌, refl, arith}
use Rattle.journal_tree.specs.Trees.{Tree}
use Rattle.journal_tree.specs.Listing.{Item, Stands, Step, IsChain, EachStep}
use Rattle.journal_tree.specs.Listing.IsChain.{last, more}
use Rattle.journal_tree.specs.Listing.Stands.{itself, parent, entry}
use Rattle.journal_tree.specs.Laws.{StandsAt, ListsAll, ListsPlaces}
use Rattle.journal_tree.proofs.Listing.{chain-ascends, chain-stands, chain-tells, chain-places}

-- a cookie is never 0
above_zero : (T : Tree) (d : ℕ) (i : Item) → Stands T d i → 0 < i.cookie
above_zero T d _ itself = omega arith
above_zero T d _ (parent x is) = omega arith
above_zero T d _ (entry n x is home) = omega arith

-- a chain has a call
some_call : (d c : ℕ) (steps : List Step) → IsChain d c steps → steps ≡ [] → ⊥
some_call d c _ (last _ s page ended) e = absurd (cc (e))
some_call d c _ (more _ s rest page chain) e = absurd (cc (e))

pub lists-all : ListsAll
lists-all d steps trees chain = record {
  told = λ i stands. chain-tells d 0 steps i chain trees (above steps i chain stands) stands;
  once = chain-ascends d 0 steps chain;
  stood = λ i at. chain-stands d 0 steps i chain at;
}
  where
    above : (steps : List Step) (i : Item) → IsChain d 0 steps → EachStep (λ T. Stands T d i) steps → 0 < i.cookie
    above [] i chain stands = absurd (some_call d 0 [] chain refl)
    above (s ∷ rest) i chain stands = above_zero s.tree d i stands.0

pub lists-places : ListsPlaces
lists-places d cookie steps trees chain stands = chain-places d 0 cookie steps chain trees (above steps chain stands) stands
  where
    above : (steps : List Step) → IsChain d 0 steps → EachStep (λ T. StandsAt T d cookie) steps → 0 < cookie
    above [] chain stands = absurd (some_call d 0 [] chain refl)
    above (s ∷ rest) chain stands = let h = above_zero s.tree d stands.0.item stands.0.stands in let a = stands.0.at in omega (arith, h, a)
