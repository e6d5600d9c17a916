-- Counting written blocks, from the last write on.
use Rattle.std.proofs.Common.{◌≡◌, ◌<◌, ◌≤◌, ◌+◌, ℕ, Bool, true, false, not, cond, List, [], ◌∷◌, ◌++◌, IsTrue, Option, Some, None, refl, sym, ap, subst, ◌∙◌, arith, append_assoc}
use Rattle.std.proofs.lemmas.Bool.{and_parts}
use mir.Val.{bool_byte}
use Rattle.journal_world.specs.Addresses.{Shape, kind_of, is_valid}
use Rattle.journal_world.specs.Maps.{Pair, is_value_at, is_object, are_objects}
use Rattle.journal_world.specs.Orders.{HasAscendingBlocks}
use Rattle.journal_block.specs.declared.update.Update.{Update}
use Rattle.journal_block.specs.Updates.{updates_block}
use Rattle.journal_tail.specs.Writes.{writes_block, written_blocks, fresh_among, AreBelow}
use Rattle.journal_tail.specs.Staging.{IsAboveNone, first_block}
use Rattle.journal_object.proofs.MapOfBlocks.{valid_block}
use Rattle.journal_tail.proofs.Ascending.{not_first, is_first, ascending_later, written_named, written_fresh, fresh_named, fresh_unnamed}

-- so many blocks, the least of which is this one, are all below n
abbrev pub IsBounded : ℕ → Option ℕ → ℕ → Type 0
IsBounded n None blocks = blocks ≡ 0
IsBounded n (Some b) blocks = blocks + b ≤ n

pub record IsCounted (tail : List Update) (n : ℕ) (writes left done : List Pair) (last : Option ℕ) (blocks fresh : ℕ) : Type 0 where
  pub split : writes ≡ left ++ done
  pub inside : AreBelow n left
  pub newest : last ≡ first_block done
  pub number : blocks ≡ written_blocks done
  pub places : fresh ≡ fresh_among tail done
  pub fewer : fresh ≤ blocks
  pub bound : IsBounded n (first_block done) blocks

below_split : (n : ℕ) (left : List Pair) (p : Pair) → AreBelow n (left ++ p ∷ []) → AreBelow n left × (p.0.block < n)
below_split n [] p all = (tt, all.0)
below_split n (q ∷ left) p all = let rest = below_split n left p all.1 in ((all.0, rest.0), rest.1)

below_more : (n m : ℕ) → n ≤ m → (ws : List Pair) → AreBelow n ws → AreBelow m ws
below_more n m le [] all = tt
below_more n m le (p ∷ ws) all = (omega (arith, le, all.0), below_more n m le ws all.1)

-- objects lie in blocks of the disk
are_below : (n : Shape) (ws : List Pair) → IsTrue (are_objects n ws) → AreBelow n.blocks ws
are_below n [] objects = tt
are_below n (p ∷ ws) objects =
    let parts = and_parts (is_object n p) (are_objects n ws) objects in
    ((valid_block n p.0 (and_parts (is_valid n p.0) (is_value_at (kind_of n p.0.block) p.1) parts.0).0).1, are_below n ws parts.1)

more_bounded : (n b : ℕ) (done : List Pair) (blocks : ℕ) → b < n → IsAboveNone b done → writes_block done b ≡ false → (first_block done ≡ Some b → ⊥)
    → IsBounded n (first_block done) blocks → blocks + 1 + b ≤ n
more_bounded n b [] blocks inside below unnamed other is = omega (arith, is)
more_bounded n b (q ∷ done) blocks inside below unnamed other is =
    let apart : b ≡ q.0.block → ⊥ = λ same. other (ap Some (sym same)) in
    omega (arith, is, below.0, apart)

-- so they do in blocks below the most that there may be
pub are_below_most : (n : Shape) (most : ℕ) → n.blocks ≤ most → (ws : List Pair) → IsTrue (are_objects n ws) → AreBelow most ws
are_below_most n most le ws objects = below_more n.blocks most le ws (are_below n ws objects)

-- there are no more blocks than numbers of them
pub bounded_le : (n : ℕ) (least : Option ℕ) (blocks : ℕ) → IsBounded n least blocks → blocks ≤ n
bounded_le n None blocks is = omega (arith, is)
bounded_le n (Some b) blocks is = omega (arith, is)

pub one_at_most : (b : Bool) → bool_byte b ≤ 1
one_at_most true = omega arith
one_at_most false = omega arith

module _ (tail : List Update) (n : ℕ) (writes left rest done : List Pair) (p : Pair) (last : Option ℕ) (blocks fresh : ℕ)
    (ascending : HasAscendingBlocks writes) (took : left ≡ rest ++ p ∷ []) (counted : IsCounted tail n writes left done last blocks fresh) where
  split : writes ≡ rest ++ p ∷ done
  split = counted.split ∙ ap (λ (ws : List Pair). ws ++ done) took ∙ append_assoc rest (p ∷ []) done

  below : IsAboveNone p.0.block done × HasAscendingBlocks done
  below = ascending_later rest p done (subst HasAscendingBlocks split ascending)

  parts : AreBelow n rest × (p.0.block < n)
  parts = below_split n rest p (subst (AreBelow n) took counted.inside)

  pub counted_first : last ≡ Some p.0.block → IsCounted tail n writes rest (p ∷ done) last blocks fresh
  counted_first is = record {
    split = split;
    inside = parts.0;
    newest = is;
    number = counted.number ∙ sym (written_named p done named);
    places = counted.places ∙ sym (fresh_named (updates_block tail p.0.block) p done (fresh_among tail done) named);
    fewer = counted.fewer;
    bound = subst (λ (o : Option ℕ). IsBounded n o blocks) (sym counted.newest ∙ is) counted.bound;
  }
    where
      named : writes_block done p.0.block ≡ true
      named = is_first p.0.block done (sym counted.newest ∙ is)

  pub counted_more : (last ≡ Some p.0.block → ⊥) → (standing : Bool) → standing ≡ updates_block tail p.0.block
      → IsCounted tail n writes rest (p ∷ done) (Some p.0.block) (blocks + 1) (fresh + bool_byte (not standing))
  counted_more other standing stands = record {
    split = split;
    inside = parts.0;
    newest = refl;
    number = omega (arith, counted.number, written_fresh p done unnamed);
    places =
        by standing
        ∙ ap (λ (s : Bool). fresh + cond s 0 1) stands
        ∙ ap (λ (k : ℕ). k + cond (updates_block tail p.0.block) 0 1) counted.places
        ∙ sym (fresh_unnamed (updates_block tail p.0.block) p done (fresh_among tail done) unnamed);
    fewer = at_most standing;
    bound = more_bounded n p.0.block done blocks inside below.0 unnamed first counted.bound;
  }
    where
      first : first_block done ≡ Some p.0.block → ⊥
      first is = other (counted.newest ∙ is)

      unnamed : writes_block done p.0.block ≡ false
      unnamed = not_first p.0.block done below.1 below.0 first

      inside : p.0.block < n
      inside = parts.1

      by : (s : Bool) → fresh + bool_byte (not s) ≡ fresh + cond s 0 1
      by true = refl
      by false = refl

      at_most : (s : Bool) → fresh + bool_byte (not s) ≤ blocks + 1
      at_most true = omega (arith, counted.fewer)
      at_most false = omega (arith, counted.fewer)
