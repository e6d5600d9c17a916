-- The updates of the blocks that stand in the tail and those of the others are one of each written
-- block, and have the writes stored.
use Rattle.std.proofs.Common.{◌≡◌, ◌<◌, ◌≤◌, ◌-◌, ◌==◌, ◌&&◌, ◌||◌, ℕ, Bool, true, false, cond, List, [], ◌∷◌, ◌++◌, length, IsTrue, refl, sym, ap, ◌∙◌, arith, length-append}
use Rattle.std.proofs.lemmas.Bool.{eq-eqb, eqb-true, ne_eqb, false≢true, cond-false, and_parts, and_from}
use Rattle.std.proofs.lemmas.List.{take-append-drop}
use Rattle.std.proofs.lemmas.List.Elements.{All-append}
use Rattle.journal_world.specs.declared.address.Addr.{Addr}
use Rattle.journal_world.specs.Addresses.{Value, Shape, kind_of, is_valid, is_same}
use Rattle.journal_world.specs.Maps.{Pair, Map, value_at, zeros_at, is_value_at, is_object, are_objects, overwritten}
use Rattle.journal_world.proofs.Lookups.{same_addr}
use Rattle.journal_block.specs.declared.update.Update.{Update}
use Rattle.journal_block.specs.Block.{Bytes}
use Rattle.journal_block.specs.Updates.{updated, with_updates, updates_block}
use Rattle.journal_block.specs.UpdateLaws.{updated-append, updated-named, updated-unnamed}
use Rattle.journal_memlog.specs.Logs.{head_of, tail_of, fresh_count}
use Rattle.journal_memlog.specs.Laws.{updates_block-append}
use Rattle.journal_tail.specs.Homes.{AreHomes}
use Rattle.journal_tail.specs.Tails.{TailState}
use Rattle.journal_object.specs.Objects.{with_object_at, ChangesOnly}
use Rattle.journal_tail.specs.Maps.{HasObjects, map_of, object_or_zeros}
use Rattle.journal_tail.specs.Writes.{Base, map_in, writes_block, written_blocks, fresh_among}
use Rattle.journal_tail.specs.ObjectTails.{tail_base}
use Rattle.journal_tail.specs.Staging.{IsStaged, StandsWhole}
use Rattle.journal_tail.specs.Applying.{stored_in, fresh_writes, standing_updates}
use Rattle.journal_tail.proofs.MapsOfBlocks.{law_of, HasObjects-map_of}
use Rattle.journal_tail.proofs.Stored.{value_at-first}
use Rattle.journal_tail.proofs.Storing.{IsBlock, is_block, stores_only, stores_block}
use Rattle.journal_tail.proofs.InPlace.{fresh_standing, fresh_other, fresh_places, made_named, made_updated, made_number, made_standing, made_homes, standing_fresh}

other_addr : (a : Addr) (p : Pair) → (p.0.block ≡ a.block → ⊥) → is_same a p.0 ≡ false
other_addr a p other = ap (λ (b : Bool). b && (a.off == p.0.off)) (ne_eqb a.block p.0.block (λ same. other (sym same)))

-- ---- what the writes give an address

module _ (m : Map) (a : Addr) where
  -- of a block that is not written: what it had
  pub value_unwritten : (ws : List Pair) → writes_block ws a.block ≡ false → value_at (overwritten m ws) a ≡ value_at m a
  value_unwritten [] none = refl
  value_unwritten (p ∷ ws) none = by (p.0.block == a.block) refl none (value_unwritten ws)
    where
      by : (here : Bool) → (p.0.block == a.block) ≡ here → (here || writes_block ws a.block) ≡ false
          → (writes_block ws a.block ≡ false → value_at (overwritten m ws) a ≡ value_at m a) → value_at (overwritten m (p ∷ ws)) a ≡ value_at m a
      by true here is rest = absurd (false≢true (sym is))
      by false here is rest = value_at-first m.layout p (ws ++ m.pairs) a
          ∙ cond-false _ p.1 (value_at (overwritten m ws) a) (other_addr a p (λ same. false≢true (sym here ∙ eq-eqb p.0.block a.block same)))
          ∙ rest is

  -- of a block that does not stand in the tail: what the writes in such blocks give it
  pub value_fresh : (tail : List Update) (ws : List Pair) → updates_block tail a.block ≡ false
      → value_at (overwritten m (fresh_writes tail ws)) a ≡ value_at (overwritten m ws) a
  value_fresh tail [] other = refl
  value_fresh tail (p ∷ ws) other = by (updates_block tail p.0.block) refl (value_fresh tail ws other)
    where
      by : (t : Bool) → updates_block tail p.0.block ≡ t → value_at (overwritten m (fresh_writes tail ws)) a ≡ value_at (overwritten m ws) a
          → value_at (overwritten m (cond t (fresh_writes tail ws) (p ∷ fresh_writes tail ws))) a ≡ value_at (overwritten m (p ∷ ws)) a
      by true is rest = rest
          ∙ sym (value_at-first m.layout p (ws ++ m.pairs) a
          ∙ cond-false _ p.1 (value_at (overwritten m ws) a) (other_addr a p (λ same. false≢true (sym other ∙ ap (updates_block tail) (sym same) ∙ is))))
      by false is rest = value_at-first m.layout p (fresh_writes tail ws ++ m.pairs) a
          ∙ ap (cond (is_same a p.0) p.1) rest
          ∙ sym (value_at-first m.layout p (ws ++ m.pairs) a)

  -- of any block of 4096 bytes: what it holds there once they are stored
  module _ (n : Shape) (valid : IsTrue (is_valid n a)) (bytes : Bytes) (had : value_at m a ≡ object_or_zeros n bytes a) where
    pub record Has (ws : List Pair) (now : Bytes) : Type 0 where
      pub block : IsBlock now
      pub value : value_at (overwritten m ws) a ≡ object_or_zeros n now a

    -- one more write in the block
    module _ (p : Pair) (ws : List Pair) (now : Bytes) (has : Has ws now) (same : p.0.block ≡ a.block) (object : IsTrue (is_object n p)) where
      abbrev new : Bytes
      new = with_object_at n now p.0 p.1

      only : ChangesOnly n now new p.0 p.1
      only = stores_only n now p.0 p.1 has.block object

      fits : is_value_at (kind_of n p.0.block) p.1 ≡ true
      fits = (and_parts (is_valid n p.0) (is_value_at (kind_of n p.0.block) p.1) object).1

      at_it : object_or_zeros n new p.0 ≡ p.1
      at_it = ap (λ (v : Value). cond (is_value_at (kind_of n p.0.block) v) v (zeros_at (kind_of n p.0.block))) only.changed
          ∙ ap (λ (b : Bool). cond b p.1 (zeros_at (kind_of n p.0.block))) fits

      beside : is_same a p.0 ≡ false → object_or_zeros n new a ≡ object_or_zeros n now a
      beside apart = ap (λ (v : Value). cond (is_value_at (kind_of n a.block) v) v (zeros_at (kind_of n a.block)))
          (only.others a valid (sym same)
          (λ off. false≢true (sym apart ∙ and_from (a.block == p.0.block) (a.off == p.0.off) (eq-eqb a.block p.0.block (sym same)) (eq-eqb a.off p.0.off off))))

      by : (here : Bool) → is_same a p.0 ≡ here → cond here p.1 (value_at (overwritten m ws) a) ≡ object_or_zeros n new a
      by true here = sym at_it ∙ ap (object_or_zeros n new) (sym (same_addr a p.0 here))
      by false here = has.value ∙ sym (beside here)

      more : Has (p ∷ ws) new
      more = record {
        block = stores_block n now p.0 p.1 has.block object;
        value = value_at-first m.layout p (ws ++ m.pairs) a ∙ by (is_same a p.0) refl;
      }

    pub value_stored : (ws : List Pair) → IsTrue (are_objects n ws) → IsBlock bytes → Has ws (stored_in n ws a.block bytes)
    value_stored [] objects is = record { block = is; value = had }
    value_stored (p ∷ ws) objects is = by_block (p.0.block == a.block) refl (value_stored ws parts.1 is)
      where
        parts : IsTrue (is_object n p) × IsTrue (are_objects n ws)
        parts = and_parts (is_object n p) (are_objects n ws) objects

        by_block : (here : Bool) → (p.0.block == a.block) ≡ here → Has ws (stored_in n ws a.block bytes)
            → Has (p ∷ ws) (cond here (with_object_at n (stored_in n ws a.block bytes) p.0 p.1) (stored_in n ws a.block bytes))
        by_block true here rest = more p ws (stored_in n ws a.block bytes) rest (eqb-true p.0.block a.block here) parts.0
        by_block false here rest = record {
          block = rest.block;
          value = value_at-first m.layout p (ws ++ m.pairs) a
              ∙ cond-false _ p.1 (value_at (overwritten m ws) a) (other_addr a p (λ same. false≢true (sym here ∙ eq-eqb p.0.block a.block same)))
              ∙ rest.value;
        }

-- ---- all updates

-- There is one of each written block, with the writes stored
pub record IsWhole (b : Base) (writes : List Pair) (updates : List Update) : Type 0 where
  pub homes : AreHomes b.layout.blocks updates
  pub named : (k : ℕ) → updates_block updates k ≡ writes_block writes k
  pub number : length updates ≡ written_blocks writes
  pub fresh : fresh_count b.tail updates ≡ fresh_among b.tail writes
  pub objects : HasObjects (with_updates b.content updates) (overwritten (map_in b) writes)

-- what the base has of the tail's blocks is what the tail has
abbrev pub ShowsTail : Base → Type 0
ShowsTail b = (k : ℕ) → updates_block b.tail k ≡ true → b.content k ≡ updated b.tail k []

module _ (b : Base) (ws : List Pair) (fresh : List Update) (shows : ShowsTail b)
    (objects : IsTrue (are_objects b.layout ws)) (staged : IsStaged b (fresh_writes b.tail ws) fresh) (sizes : StandsWhole b.tail ws) where
  abbrev f : ℕ → Bytes
  f k = stored_in b.layout ws k (updated b.tail k [])

  abbrev S : List Update
  S = standing_updates b.layout b.tail ws

  abbrev all : List Update
  all = S ++ fresh

  fresh_named : (k : ℕ) → updates_block fresh k ≡ writes_block (fresh_writes b.tail ws) k
  fresh_named = staged.blocks.named

  named : (k : ℕ) → updates_block all k ≡ writes_block ws k
  named k = updates_block-append S fresh k
      ∙ ap (λ (t : Bool). t || updates_block fresh k) (made_named b.tail f ws k)
      ∙ ap (λ (t : Bool). (writes_block ws k && updates_block b.tail k) || t) (fresh_named k)
      ∙ by (updates_block b.tail k) refl
    where
      whole : (w t : Bool) → t ≡ false → ((w && true) || t) ≡ w
      whole true t is = refl
      whole false t is = is

      none : (w t : Bool) → t ≡ w → ((w && false) || t) ≡ w
      none true t is = is
      none false t is = is

      by : (t : Bool) → updates_block b.tail k ≡ t → ((writes_block ws k && t) || writes_block (fresh_writes b.tail ws) k) ≡ writes_block ws k
      by true is = whole (writes_block ws k) _ (fresh_standing b.tail ws k is)
      by false is = none (writes_block ws k) _ (fresh_other b.tail ws k is)

  abbrev m : Map
  m = map_in b

  content_is : (k : ℕ) → with_updates b.content all k ≡ updated fresh k (cond (writes_block ws k && updates_block b.tail k) (f k) (b.content k))
  content_is k = updated-append S fresh k (b.content k) ∙ ap (updated fresh k) (made_updated b.tail f ws k (b.content k))

  -- a block that stands in the tail has the writes stored
  standing : (a : Addr) → IsTrue (is_valid b.layout a) → updates_block b.tail a.block ≡ true
      → value_at (overwritten m ws) a ≡ object_or_zeros b.layout (with_updates b.content all a.block) a
  unfolding map_of
  standing a valid stands = by (writes_block ws a.block) refl
      ∙ ap (λ (bytes : Bytes). object_or_zeros b.layout bytes a)
      (sym (content_is a.block
      ∙ ap (λ (t : Bool). updated fresh a.block (cond (writes_block ws a.block && t) (f a.block) (b.content a.block))) stands
      ∙ updated-unnamed fresh a.block _ (fresh_named a.block ∙ fresh_standing b.tail ws a.block stands)))
    where
      had : value_at m a ≡ object_or_zeros b.layout (b.content a.block) a
      had = (HasObjects-map_of b.layout (law_of b.layout) b.content).values a valid

      by : (w : Bool) → writes_block ws a.block ≡ w
          → value_at (overwritten m ws) a ≡ object_or_zeros b.layout (cond (w && true) (f a.block) (b.content a.block)) a
      by true is = (value_stored m a b.layout valid (updated b.tail a.block [])
          (had ∙ ap (λ (bytes : Bytes). object_or_zeros b.layout bytes a) (shows a.block stands)) ws objects
          (is_block (updated b.tail a.block []) (sizes a.block is stands))).value
      by false is = value_unwritten m a ws is ∙ had

  -- another block has those that are staged
  other : (a : Addr) → IsTrue (is_valid b.layout a) → updates_block b.tail a.block ≡ false
      → value_at (overwritten m ws) a ≡ object_or_zeros b.layout (with_updates b.content all a.block) a
  unfolding map_of
  other a valid away = sym (value_fresh m a b.tail ws away)
      ∙ staged.objects.values a valid
      ∙ ap (λ (bytes : Bytes). object_or_zeros b.layout bytes a)
      (sym (content_is a.block ∙ ap (updated fresh a.block) (none (writes_block ws a.block) (updates_block b.tail a.block) away)))
    where
      none : (w t : Bool) → t ≡ false → cond (w && t) (f a.block) (b.content a.block) ≡ b.content a.block
      none true true is = absurd (false≢true (sym is))
      none true false is = refl
      none false t is = refl

  pub whole : IsWhole b ws all
  unfolding map_of
  whole = record {
    homes = All-append (λ (u : Update). (513 ≤ u.block) × (u.block < b.layout.blocks)) S fresh (made_homes b.tail f b.layout ws objects) staged.blocks.homes;
    named = named;
    number = omega (arith, length-append S fresh, staged.blocks.number, made_number b.tail f ws);
    fresh = standing_fresh b.tail S fresh (made_standing b.tail f ws) ∙ staged.blocks.fresh ∙ fresh_places b.tail ws;
    objects = record { values = λ a valid. by a valid (updates_block b.tail a.block) refl };
  }
    where
      by : (a : Addr) → IsTrue (is_valid b.layout a) → (t : Bool) → updates_block b.tail a.block ≡ t
          → value_at (overwritten m ws) a ≡ object_or_zeros b.layout (with_updates b.content all a.block) a
      by a valid true is = standing a valid is
      by a valid false is = other a valid is

-- what memory knows of a block that stands in the tail is what the tail has
pub tail_shows : (n : Shape) (fetched : List Update) (t : TailState) → ShowsTail (tail_base n fetched t)
tail_shows n fetched t k stands =
    updated-append fetched (t.cache ++ t.log.updates) k []
    ∙ updated-append t.cache t.log.updates k (updated fetched k [])
    ∙ ap (λ (us : List Update). updated us k (updated t.cache k (updated fetched k []))) (sym (take-append-drop (t.log.cut - t.log.start) t.log.updates))
    ∙ updated-append (head_of t.log) (tail_of t.log) k (updated t.cache k (updated fetched k []))
    ∙ updated-named (tail_of t.log) k _ [] stands
