-- Staging one more write.
use Rattle.std.proofs.Common.{◌≡◌, ◌⊎◌, inl, inr, ⊎_elim, ◌<◌, ◌≤◌, ℕ, false, List, [], ◌∷◌, IsTrue, Some, refl, sym, ap, subst, ◌∙◌}
use Rattle.journal_world.specs.declared.address.Addr.{Addr}
use Rattle.journal_world.specs.declared.address.Kind.TheVariants.{Block}
use Rattle.journal_world.specs.Addresses.{kind_of, is_valid}
use Rattle.journal_world.specs.Maps.{Pair, is_object, overwritten}
use Rattle.journal_world.specs.Orders.{HasAscendingBlocks}
use Rattle.journal_block.specs.declared.update.Update.{Update}
use Rattle.journal_block.specs.Block.{Bytes}
use Rattle.journal_block.specs.Updates.{with_updates, updates_block}
use Rattle.journal_block.specs.UpdateLaws.{updated-unnamed}
use Rattle.journal_object.specs.Objects.{ChangesOnly}
use Rattle.journal_tail.specs.Maps.{HasObjects, map_of}
use Rattle.journal_tail.specs.Writes.{Base, map_in, writes_block}
use Rattle.journal_tail.specs.Staging.{IsAboveNone, first_update, first_bytes, with_first, CoversBlocks, IsStaged, IsOpen}
use Rattle.journal_object.proofs.MapOfBlocks.{valid_block}
use Rattle.journal_tail.proofs.Stored.{HasObjects-stored}
use Rattle.journal_tail.proofs.Updates.{updated_first, updated_later}
use Rattle.journal_tail.proofs.Ascending.{not_first}
use Rattle.journal_tail.proofs.Covering.{apart_first, covers_first, covers_more, covers_stored}

-- the block stands there already
pub open_first : (b : Base) (ws : List Pair) (us : List Update) (a : Addr) → IsStaged b ws us → first_update us ≡ Some a.block
    → IsOpen b ws a us
open_first b ws us a staged first = record {
  blocks = covers_first b.layout.blocks b.tail ws us staged.blocks a first;
  bytes = record {
    content = with_updates b.content us;
    objects = staged.objects;
    here = inr (bytes us staged.blocks first);
    others = λ c other. refl;
  };
}
  where
    bytes : (vs : List Update) → CoversBlocks b.layout.blocks b.tail ws vs → first_update vs ≡ Some a.block
        → first_bytes vs ≡ with_updates b.content vs a.block
    bytes [] covers is = let impossible : ⊥ = cc in absurd impossible
    bytes (u ∷ vs) covers is =
        let same : u.block ≡ a.block = cc in
        sym (updated_first b.content u vs (apart_first u vs covers.distinct))
        ∙ ap (with_updates b.content (u ∷ vs)) same

-- it is put before the others
pub open_more : (b : Base) (ws : List Pair) (us : List Update) (a : Addr) (bytes : Bytes) → IsTrue (is_valid b.layout a)
    → IsStaged b ws us → HasAscendingBlocks ws → IsAboveNone a.block ws → (first_update us ≡ Some a.block → ⊥)
    → (kind_of b.layout a.block ≡ Some Block) ⊎ (bytes ≡ b.content a.block)
    → IsOpen b ws a (record { block = a.block; bytes = bytes } ∷ us)
open_more b ws us a bytes valid staged ascending below other read = record {
  blocks = covers_more b.layout.blocks b.tail ws us staged.blocks a bytes unnamed at.0 at.1;
  bytes = record {
    content = with_updates b.content us;
    objects = staged.objects;
    here = ⊎_elim (λ whole. inl whole) (λ is. inr (is ∙ sym stays)) read;
    others = λ c apart. updated_later b.content (record { block = a.block; bytes = bytes }) us c apart;
  };
}
  where
    at : (513 ≤ a.block) × (a.block < b.layout.blocks)
    at = valid_block b.layout a valid

    unnamed : writes_block ws a.block ≡ false
    unnamed = not_first a.block ws ascending below (λ first. other (staged.blocks.first ∙ first))

    stays : with_updates b.content us a.block ≡ b.content a.block
    stays = updated-unnamed us a.block (b.content a.block) (staged.blocks.named a.block ∙ unnamed)

-- the write is stored in it
pub stored : (b : Base) (ws : List Pair) (a : Addr) (value : List ℕ) (us vs : List Update) → IsOpen b ws a us
    → vs ≡ with_first us (first_bytes vs) → ChangesOnly b.layout (first_bytes us) (first_bytes vs) a value
    → IsTrue (is_object b.layout (a, value)) → IsStaged b ((a, value) ∷ ws) vs
unfolding map_of
stored b ws a value [] vs opened is changes object = let first = opened.blocks.first in let impossible : ⊥ = cc in absurd impossible
stored b ws a value (u ∷ us) vs opened is changes object = subst (λ (xs : List Update). IsStaged b ((a, value) ∷ ws) xs) (sym is) staged
  where
    bytes : Bytes
    bytes = first_bytes vs

    later : List Update
    later = record u { bytes = bytes } ∷ us

    apart : updates_block us u.block ≡ false
    apart = apart_first u us opened.blocks.distinct

    block : u.block ≡ a.block
    block = let first = opened.blocks.first in cc

    has : HasObjects (with_updates b.content later) (overwritten (map_in b) ((a, value) ∷ ws))
    has =
        let open_in = opened.bytes in
        HasObjects-stored (overwritten (map_in b) ws) open_in.content (with_updates b.content later) a value u.bytes bytes
        open_in.objects open_in.here changes object
        (ap (with_updates b.content later) (sym block) ∙ updated_first b.content (record u { bytes = bytes }) us apart)
        (λ c other.
        let away : c ≡ u.block → ⊥ = λ same. other (same ∙ block) in
        updated_later b.content (record u { bytes = bytes }) us c away
        ∙ sym (updated_later b.content u us c away)
        ∙ open_in.others c other)

    staged : IsStaged b ((a, value) ∷ ws) later
    staged = record { blocks = covers_stored b.layout.blocks b.tail ws a value u us bytes opened.blocks; objects = has }
