-- What memory knows of each address with what was prepared behind: what the writes make of what it
-- knew.
use Rattle.std.proofs.Common.{◌≡◌, ◌==◌, ◌||◌, ◌&&◌, ℕ, Bool, true, false, cond, ◌-◌, List, [], ◌∷◌, ◌++◌, IsTrue, Option, Some, None, refl, sym, ap, ◌∙◌, append_assoc}
use Rattle.std.proofs.lemmas.Bool.{eq-eqb, eqb-true, false≢true, and_parts, and_from}
use Rattle.std.proofs.lemmas.Cmp.{nat_eq_equiv}
use Rattle.std.proofs.lemmas.List.{append-nil, take-append-drop}
use Rattle.journal_world.specs.declared.address.Addr.{Addr}
use Rattle.journal_world.specs.declared.address.Kind.{Kind}
use Rattle.journal_world.specs.declared.address.Kind.TheVariants.{Bit, Record, Block}
use Rattle.journal_world.specs.Addresses.{Value, Shape, kind_of, is_valid, is_same}
use Rattle.journal_world.specs.Maps.{Pair, Map, value_at, is_value_at, is_object, are_objects, overwritten}
use Rattle.journal_world.proofs.SameMaps.{value_at-overwritten}
use Rattle.journal_block.specs.declared.update.Update.{Update}
use Rattle.journal_block.specs.Block.{Bytes}
use Rattle.journal_block.specs.Updates.{Content, updated, with_updates, updates_block}
use Rattle.journal_block.specs.UpdateLaws.{updated-append, updated-unnamed}
use Rattle.journal_memlog.specs.Logs.{LogState, head_of, tail_of, with_update, absorbed, appended}
use Rattle.journal_memlog.specs.Laws.{updates_block-append, updates_block-with_update, updated-appended}
use Rattle.journal_tail.specs.Tails.{MakeTheSame}
use Rattle.journal_tail.specs.Maps.{object_or_zeros, HasObjects, map_of}
use Rattle.journal_tail.specs.ObjectTails.{known_object, is_missing, after_writes, OverwritesKnown}
use Rattle.journal_tail.specs.Writes.{writes_block}
use Rattle.journal_tail.proofs.Fetched.{or_right, or_left}
use Rattle.journal_tail.proofs.MapsOfBlocks.{Law, HasObjects-map_of}
use Rattle.journal_tail.proofs.Missing.{present_named}
use Rattle.journal_tail.proofs.Stored.{whole_off}

-- ---- what writes make of one address

or_parts : (x y : Bool) → (x || y) ≡ false → (x ≡ false) × (y ≡ false)
or_parts true y is = absurd (false≢true (sym is))
or_parts false y is = (refl, is)

other_block : (a b : Addr) → (b.block == a.block) ≡ false → is_same a b ≡ false
other_block a b is = ap (λ (t : Bool). t && (a.off == b.off)) (nat_eq_equiv.symm a.block b.block ∙ is)

-- of a block that is not written nothing changes
after_none : (ws : List Pair) (o : Option Value) (a : Addr) → writes_block ws a.block ≡ false → after_writes ws o a ≡ o
after_none [] o a none = refl
after_none (p ∷ ws) o a none =
    let parts = or_parts (p.0.block == a.block) (writes_block ws a.block) none in
    ap (λ (t : Bool). cond t (Some p.1) (after_writes ws o a)) (other_block a p.0 parts.0) ∙ after_none ws o a parts.1

some_cond : (t : Bool) (v w : Value) → cond t (Some v) (Some w) ≡ Some (cond t v w)
some_cond true v w = refl
some_cond false v w = refl

-- what is after the writes in a map that had the value
after_overwritten : (m : Map) (ws : List Pair) (a : Addr) → after_writes ws (Some (value_at m a)) a ≡ Some (value_at (overwritten m ws) a)
after_overwritten m [] a = refl
after_overwritten m (w ∷ ws) a =
    ap (cond (is_same a w.0) (Some w.1)) (after_overwritten m ws a)
    ∙ some_cond (is_same a w.0) w.1 (value_at (overwritten m ws) a)
    ∙ ap Some (sym (value_at-overwritten m w ws a))

-- where a block is one object and is written, what it had is not asked for
after_whole : (n : Shape) (ws : List Pair) (o u : Option Value) (a : Addr) → kind_of n a.block ≡ Some Block → IsTrue (is_valid n a)
    → IsTrue (are_objects n ws) → writes_block ws a.block ≡ true → after_writes ws o a ≡ after_writes ws u a
after_whole n [] o u a whole valid objects written = absurd (false≢true written)
after_whole n (p ∷ ws) o u a whole valid objects written =
    by (p.0.block == a.block) refl (λ later. after_whole n ws o u a whole valid parts.1 later)
  where
    parts : IsTrue (is_object n p) × IsTrue (are_objects n ws)
    parts = and_parts (is_object n p) (are_objects n ws) objects

    front : p.0.block ≡ a.block → is_same a p.0 ≡ true
    front same =
        let there : IsTrue (is_valid n p.0) = (and_parts (is_valid n p.0) (is_value_at (kind_of n p.0.block) p.1) parts.0).0 in
        let p_off : p.0.off ≡ 0 = whole_off (kind_of n p.0.block) p.0.off (ap (kind_of n) same ∙ whole) there in
        let a_off : a.off ≡ 0 = whole_off (kind_of n a.block) a.off whole valid in
        and_from (a.block == p.0.block) (a.off == p.0.off) (eq-eqb a.block p.0.block (sym same)) (eq-eqb a.off p.0.off (a_off ∙ sym p_off))

    by : (here : Bool) → (p.0.block == a.block) ≡ here → (writes_block ws a.block ≡ true → after_writes ws o a ≡ after_writes ws u a)
        → after_writes (p ∷ ws) o a ≡ after_writes (p ∷ ws) u a
    by true here rest =
        let same = front (eqb-true p.0.block a.block here) in
        ap (λ (t : Bool). cond t (Some p.1) (after_writes ws o a)) same ∙ sym (ap (λ (t : Bool). cond t (Some p.1) (after_writes ws u a)) same)
    by false here rest =
        ap (cond (is_same a p.0) (Some p.1)) (rest (sym (ap (λ (t : Bool). t || writes_block ws a.block) here) ∙ written))

-- ---- what memory knows of it

object_of_known : (n : Shape) (us : List Update) (a : Addr) → updates_block us a.block ≡ true → known_object n us a ≡ Some (object_or_zeros n (updated us a.block []) a)
object_of_known n us a known = ap (λ (t : Bool). cond t (Some (object_or_zeros n (updated us a.block []) a)) None) known

-- updates that make the same of each block give the same object
known_alike : (n : Shape) (fetched us vs : List Update) (a : Addr) → MakeTheSame us vs → known_object n (fetched ++ us) a ≡ known_object n (fetched ++ vs) a
known_alike n fetched us vs a same =
    ap (λ (t : Bool). cond t (Some (object_or_zeros n (updated (fetched ++ us) a.block []) a)) None)
    (updates_block-append fetched us a.block ∙ ap (λ (t : Bool). updates_block fetched a.block || t) (same.blocks a.block) ∙ sym (updates_block-append fetched vs a.block))
    ∙ ap (λ (bytes : Bytes). cond (updates_block (fetched ++ vs) a.block) (Some (object_or_zeros n bytes a)) None)
    (updated-append fetched us a.block [] ∙ same.content a.block (updated fetched a.block []) ∙ sym (updated-append fetched vs a.block []))

-- the updates of a log are then of the blocks of what it had and of these
named_absorbed : (tail updates : List Update) (b : ℕ) → updates_block (absorbed tail updates) b ≡ updates_block (tail ++ updates) b
named_absorbed tail [] b = ap (λ (us : List Update). updates_block us b) (sym (append-nil tail))
named_absorbed tail (u ∷ later) b =
    named_absorbed (with_update tail u) later b
    ∙ updates_block-append (with_update tail u) later b
    ∙ ap (λ (t : Bool). t || updates_block later b) (updates_block-with_update tail u b)
    ∙ sym (updates_block-append (tail ++ u ∷ []) later b)
    ∙ ap (λ (us : List Update). updates_block us b) (append_assoc tail (u ∷ []) later)

named_appended : (log : LogState) (updates : List Update) (b : ℕ) → updates_block (appended log updates).updates b ≡ updates_block (log.updates ++ updates) b
named_appended log updates b =
    updates_block-append (head_of log) (absorbed (tail_of log) updates) b
    ∙ ap (λ (t : Bool). updates_block (head_of log) b || t) (named_absorbed (tail_of log) updates b)
    ∙ sym (updates_block-append (head_of log) (tail_of log ++ updates) b)
    ∙ ap (λ (us : List Update). updates_block us b) (sym (append_assoc (head_of log) (tail_of log) updates))
    ∙ ap (λ (us : List Update). updates_block (us ++ updates) b) (take-append-drop (log.cut - log.start) log.updates)

-- so memory knows of each address what it does with these behind
pub known_appended : (n : Shape) (fetched : List Update) (log : LogState) (updates : List Update) (a : Addr)
    → known_object n (fetched ++ (appended log updates).updates) a ≡ known_object n ((fetched ++ log.updates) ++ updates) a
known_appended n fetched log updates a =
    known_alike n fetched (appended log updates).updates (log.updates ++ updates) a
    (record { blocks = named_appended log updates; content = updated-appended log updates })
    ∙ ap (λ (us : List Update). known_object n us a) (sym (append_assoc fetched log.updates updates))

module _ (n : Shape) (law : Law n) (known prepared : List Update) (writes : List Pair) where
  abbrev pub content : Content
  content = with_updates (λ b. []) known

  module _ (a : Addr) (valid : IsTrue (is_valid n a)) where
    -- of a block that is not written memory knows what it knew
    unwritten : updates_block prepared a.block ≡ false → writes_block writes a.block ≡ false
        → known_object n (known ++ prepared) a ≡ after_writes writes (known_object n known a) a
    unwritten unnamed none =
        ap (λ (t : Bool). cond t (Some (object_or_zeros n (updated (known ++ prepared) a.block []) a)) None)
        (updates_block-append known prepared a.block ∙ or_left (updates_block known a.block) (updates_block prepared a.block) unnamed)
        ∙ ap (λ (bytes : Bytes). cond (updates_block known a.block) (Some (object_or_zeros n bytes a)) None)
        (updated-append known prepared a.block [] ∙ updated-unnamed prepared a.block (updated known a.block []) unnamed)
        ∙ sym (after_none writes (known_object n known a) a none)

    -- of a block that is written it knows what is prepared
    written : updates_block prepared a.block ≡ true → HasObjects (with_updates content prepared) (overwritten (map_of n content) writes)
        → known_object n (known ++ prepared) a ≡ after_writes writes (Some (object_or_zeros n (updated known a.block []) a)) a
    unfolding map_of
    written named objects =
        object_of_known n (known ++ prepared) a
        (updates_block-append known prepared a.block ∙ or_right (updates_block known a.block) (updates_block prepared a.block) named)
        ∙ ap (λ (bytes : Bytes). Some (object_or_zeros n bytes a)) (updated-append known prepared a.block [])
        ∙ ap Some (sym (objects.values a valid))
        ∙ sym (after_overwritten (map_of n content) writes a)
        ∙ ap (λ (v : Value). after_writes writes (Some v) a) ((HasObjects-map_of n law content).values a valid)

    -- what it knew of it is asked for only where it knew it
    before : is_missing n known a.block ≡ false → IsTrue (are_objects n writes) → writes_block writes a.block ≡ true
        → after_writes writes (Some (object_or_zeros n (updated known a.block []) a)) a ≡ after_writes writes (known_object n known a) a
    before here objects is_written = by (updates_block known a.block) refl
      where
        older : Option Value
        older = Some (object_or_zeros n (updated known a.block []) a)

        unknown : updates_block known a.block ≡ false → (kind_of n a.block ≡ Some Block → ⊥) → ⊥
        unknown none other = false≢true (sym none ∙ present_named n known a.block here other)

        by_kind : (k : Option Kind) → kind_of n a.block ≡ k → updates_block known a.block ≡ false
            → after_writes writes older a ≡ after_writes writes (known_object n known a) a
        by_kind None is none = absurd (unknown none (λ whole. let wrong : None ≡ Some Block = sym is ∙ whole in let impossible : ⊥ = cc in impossible))
        by_kind (Some Bit) is none = absurd (unknown none (λ whole. let wrong : Some Bit ≡ Some Block = sym is ∙ whole in let impossible : ⊥ = cc in impossible))
        by_kind (Some (Record size)) is none = absurd (unknown none (λ whole. let wrong : Some (Record size) ≡ Some Block = sym is ∙ whole in let impossible : ⊥ = cc in impossible))
        by_kind (Some Block) is none = after_whole n writes older (known_object n known a) a is valid objects is_written

        by : (t : Bool) → updates_block known a.block ≡ t → after_writes writes older a ≡ after_writes writes (known_object n known a) a
        by true is = ap (λ (o : Option Value). after_writes writes o a) (sym (object_of_known n known a is))
        by false is = by_kind (kind_of n a.block) refl is

  pub overwrites_known : HasObjects (with_updates content prepared) (overwritten (map_of n content) writes)
      → ((b : ℕ) → updates_block prepared b ≡ writes_block writes b) → IsTrue (are_objects n writes)
      → ((b : ℕ) → writes_block writes b ≡ true → is_missing n known b ≡ false) → OverwritesKnown n known prepared writes
  overwrites_known objects named are present = record { values = λ a valid. by a valid (writes_block writes a.block) refl }
    where
      by : (a : Addr) → IsTrue (is_valid n a) → (t : Bool) → writes_block writes a.block ≡ t
          → known_object n (known ++ prepared) a ≡ after_writes writes (known_object n known a) a
      by a valid true is = written a valid (named a.block ∙ is) objects ∙ before a valid (present a.block is) are is
      by a valid false is = unwritten a valid (named a.block ∙ is) is
