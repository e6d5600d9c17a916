-- Entries that are put at their places: the disk then, block by block.
use Rattle.std.proofs.Common.{◌≡◌, ℕ, ◌+◌, ◌<◌, ◌≤◌, Bool, true, false, cond, eqb, List, [], ◌∷◌, length, Option, Some, None, refl, sym, ap, subst, ◌∙◌, ◌⊎◌, inl, inr, arith}
use Rattle.std.specs.Prelude.{◌||◌}
use Rattle.std.proofs.lemmas.Bool.{cases_eq, eq-eqb, ne_eqb}
use Rattle.journal_treestore.specs.Entries.{with_entry}
use Rattle.journal_treestore.specs.Positions.{with_put, with_blocks}
use Rattle.journal_treestore.specs.Views.{View}
use Rattle.journal_treestore.specs.declared.entry.Entry.{Entry}
use Rattle.journal_treecalls.specs.declared.changes.PlacedEntry.{PlacedEntry}
use Rattle.journal_treecalls.specs.declared.seats.EntryPlace.{EntryPlace}
use Rattle.journal_treecalls.specs.declared.seats.EntryPlaces.{EntryPlaces}
use Rattle.journal_treecalls.specs.declared.room.FreePlace.{FreePlace}
use Rattle.journal_treecalls.specs.Disks.{Write, written, Learns}
use Rattle.journal_treecalls.specs.Disks.Write.{block_write}
use Rattle.journal_treecalls.specs.Changes.{IsInside, with_changes, is_of, is_in, last_block, changed_by, changed_block, count_of, block_count, with_some, PutsBlocks, PutsChanges}
use Rattle.journal_treecalls.specs.Seats.{IsInPlace, AreInside}
use Rattle.journal_treecalls.specs.Renamings.{IsInsideOwn}
use Rattle.journal_treecalls.specs.Moves.{placed, placed_if, entry_place, name_in, second_over, own_place}
use Rattle.journal_treecalls.proofs.Learning.{one-longer}

-- one after the other, block by block
changes-blocks : (V : View) (cs : List (Option PlacedEntry)) → with_changes V cs ≡ with_blocks V (λ b. changed_block cs b (V.block b))
changes-blocks V [] = refl
changes-blocks V (None ∷ cs) = changes-blocks V cs
changes-blocks V (Some c ∷ cs) =
    changes-blocks (with_put V c.block c.at c.entry) cs
    ∙ (λ z. with_blocks V (λ b. changed_block cs b (here b (cases_eq b c.block) z)))
  where
    here : (b : ℕ) → (b ≡ c.block) ⊎ (b ≡ c.block → ⊥) → (with_put V c.block c.at c.entry).block b ≡ changed_by (Some c) b (V.block b)
    here b (inl same) =
        ap (λ t. cond t (with_entry (V.block c.block) c.at c.entry) (V.block b)) (eq-eqb b c.block same)
        ∙ ap (λ b. with_entry (V.block b) c.at c.entry) (sym same)
        ∙ sym (ap (λ t. cond t (with_entry (V.block b) c.at c.entry) (V.block b)) (eq-eqb c.block b (sym same)))
    here b (inr other) =
        ap (λ t. cond t (with_entry (V.block c.block) c.at c.entry) (V.block b)) (ne_eqb b c.block other)
        ∙ sym (ap (λ t. cond t (with_entry (V.block b) c.at c.entry) (V.block b)) (ne_eqb c.block b (λ e. other (sym e))))

-- a block in which there is none stays
changed-none : (cs : List (Option PlacedEntry)) (b : ℕ) (v : List ℕ) → is_in cs b ≡ false → changed_block cs b v ≡ v
changed-none [] b v none = refl
changed-none (None ∷ cs) b v none = changed-none cs b v none
changed-none (Some c ∷ cs) b v none = by (eqb c.block b) refl (changed-none cs b v)
  where
    by : (t : Bool) → eqb c.block b ≡ t → (is_in cs b ≡ false → changed_block cs b v ≡ v) → changed_block cs b (changed_by (Some c) b v) ≡ v
    by true is rest = absurd (cc (sym (ap (λ t. t || is_in cs b) is) ∙ none))
    by false is rest =
        ap (λ t. changed_block cs b (cond t (with_entry v c.at c.entry) v)) is
        ∙ rest (sym (ap (λ t. t || is_in cs b) is) ∙ none)

-- all blocks are written
some-all : (V : View) (cs : List (Option PlacedEntry)) → with_some V cs cs ≡ with_changes V cs
some-all V cs = (λ z. with_blocks V (λ b. by b (is_in cs b) refl z)) ∙ sym (changes-blocks V cs)
  where
    by : (b : ℕ) (t : Bool) → is_in cs b ≡ t → cond (is_in cs b) (changed_block cs b (V.block b)) (V.block b) ≡ changed_block cs b (V.block b)
    by b true is = ap (λ t. cond t (changed_block cs b (V.block b)) (V.block b)) is
    by b false is = ap (λ t. cond t (changed_block cs b (V.block b)) (V.block b)) is ∙ sym (changed-none cs b (V.block b) is)

pub puts-all : (old new : View → Type 0) (ws : List Write) (cs : List (Option PlacedEntry)) → PutsBlocks old new ws cs cs → PutsChanges old new ws cs
puts-all old new ws cs p = record { same = p.same; view = λ V m. p.view V m ∙ some-all V cs }

-- ── step by step ──

-- a change that is none, or whose block a later one writes
skipped : (V : View) (cs : List (Option PlacedEntry)) (c : Option PlacedEntry) (others : List (Option PlacedEntry)) → last_block c others ≡ None → (b : ℕ) → is_in (c ∷ others) b ≡ is_in others b
skipped V cs None others is b = refl
skipped V cs (Some c) others is b = later (is_in others c.block) refl is
  where
    later : (t : Bool) → is_in others c.block ≡ t → cond t None (Some c.block) ≡ None → is_in (Some c ∷ others) b ≡ is_in others b
    later false at e = absurd (cc (e))
    later true at e = by (eqb c.block b) refl (cases_eq c.block b)
      where
        by : (t : Bool) → eqb c.block b ≡ t → (c.block ≡ b) ⊎ (c.block ≡ b → ⊥) → is_in (Some c ∷ others) b ≡ is_in others b
        by t is (inl same) = ap (λ t. t || is_in others b) (eq-eqb c.block b same) ∙ sym (ap (is_in others) (sym same) ∙ at)
        by t is (inr other) = ap (λ t. t || is_in others b) (ne_eqb c.block b other)

pub puts-skip : (old new : View → Type 0) (ws : List Write) (cs some : List (Option PlacedEntry)) (c : Option PlacedEntry) (others : List (Option PlacedEntry)) → some ≡ c ∷ others → last_block c others ≡ None
    → PutsBlocks old new ws cs others → PutsBlocks old new ws cs some
puts-skip old new ws cs some c others is none p = record {
  same = p.same;
  view = λ V m.
      p.view V m
      ∙ (λ z. with_blocks V (λ b. cond (sym (skipped V cs c others none b) z) (changed_block cs b (V.block b)) (V.block b)))
      ∙ ap (with_some V cs) (sym is);
}

-- its block is written after the others
added : (V : View) (cs : List (Option PlacedEntry)) (c : Option PlacedEntry) (others : List (Option PlacedEntry)) (n : ℕ) (v : List ℕ) → last_block c others ≡ Some n → v ≡ changed_block cs n (V.block n)
    → (b : ℕ) → cond (eqb b n) v (cond (is_in others b) (changed_block cs b (V.block b)) (V.block b)) ≡ cond (is_in (c ∷ others) b) (changed_block cs b (V.block b)) (V.block b)
added V cs None others n v is put b = absurd (cc (is))
added V cs (Some c) others n v is put b = by (number (is_in others c.block) is) (cases_eq b n)
  where
    number : (t : Bool) → cond t None (Some c.block) ≡ Some n → c.block ≡ n
    number true e = absurd (cc (e))
    number false e = cc

    by : c.block ≡ n → (b ≡ n) ⊎ (b ≡ n → ⊥) → cond (eqb b n) v (cond (is_in others b) (changed_block cs b (V.block b)) (V.block b)) ≡ cond (is_in (Some c ∷ others) b) (changed_block cs b (V.block b)) (V.block b)
    by own (inl same) =
        ap (λ t. cond t v (cond (is_in others b) (changed_block cs b (V.block b)) (V.block b))) (eq-eqb b n same)
        ∙ put
        ∙ ap (λ b. changed_block cs b (V.block b)) (sym same)
        ∙ sym (ap (λ t. cond (t || is_in others b) (changed_block cs b (V.block b)) (V.block b)) (eq-eqb c.block b (own ∙ sym same)))
    by own (inr other) =
        ap (λ t. cond t v (cond (is_in others b) (changed_block cs b (V.block b)) (V.block b))) (ne_eqb b n other)
        ∙ sym (ap (λ t. cond (t || is_in others b) (changed_block cs b (V.block b)) (V.block b)) (ne_eqb c.block b (λ e. other (sym e ∙ own))))

pub puts-more : (first old mid new : View → Type 0) (ws put : List Write) (cs some : List (Option PlacedEntry)) (c : Option PlacedEntry) (others : List (Option PlacedEntry)) (n : ℕ) (v w : List ℕ) → some ≡ c ∷ others → last_block c others ≡ Some n
    → Learns first old (λ V. V.block n ≡ v) → w ≡ changed_block cs n v → PutsBlocks old mid put cs others → ((V : View) → new V → mid V) → ws ≡ block_write n w ∷ put → PutsBlocks first new ws cs some
puts-more first old mid new ws put cs some c others n v w is last l changed p same written_is = record {
  same = λ V m. l.before V (p.same V (same V m));
  view = λ V m.
      let block = changed ∙ ap (changed_block cs n) (sym (l.now V (p.same V (same V m)))) in
      ap (λ ws. written ws V) written_is
      ∙ ap (λ U. Rattle.journal_treestore.specs.Views.with_block U n w) (p.view V (same V m))
      ∙ (λ z. with_blocks V (λ b. added V cs c others n w last block b z))
      ∙ ap (with_some V cs) (sym is);
}

pub count-skip : (some : List (Option PlacedEntry)) (c : Option PlacedEntry) (others : List (Option PlacedEntry)) → some ≡ c ∷ others → last_block c others ≡ None → block_count some ≡ block_count others
count-skip some c others is none =
    let e : block_count some ≡ 0 + block_count others = ap block_count is ∙ ap (λ o. count_of o + block_count others) none in
    omega (arith, e)

pub count-more : (ws put : List Write) (n : ℕ) (w : List ℕ) (some : List (Option PlacedEntry)) (c : Option PlacedEntry) (others : List (Option PlacedEntry)) → some ≡ c ∷ others → last_block c others ≡ Some n → ws ≡ block_write n w ∷ put
    → length put ≤ block_count others → length ws ≤ block_count some
count-more ws put n w some c others is last written_is few =
    let e : block_count some ≡ 1 + block_count others = ap block_count is ∙ ap (λ o. count_of o + block_count others) last in
    let l = one-longer ws put (block_write n w) written_is in
    omega (arith, e, l, few)

-- ── how many blocks ──

one-at-most : (o : Option ℕ) → count_of o ≤ 1
one-at-most None = omega arith
one-at-most (Some b) = omega arith

pub two-blocks : (a b : Option PlacedEntry) → block_count (a ∷ b ∷ []) ≤ 2
two-blocks a b = let x = one-at-most (last_block a (b ∷ [])) in let y = one-at-most (last_block b []) in omega (arith, x, y)

pub three-blocks : (a b c : Option PlacedEntry) → block_count (a ∷ b ∷ c ∷ []) ≤ 3
three-blocks a b c = let x = one-at-most (last_block a (b ∷ c ∷ [])) in let y = two-blocks b c in omega (arith, x, y)

four-blocks : (a b c d : Option PlacedEntry) → block_count (a ∷ b ∷ c ∷ d ∷ []) ≤ 4
four-blocks a b c d = let x = one-at-most (last_block a (b ∷ c ∷ d ∷ [])) in let y = three-blocks b c d in omega (arith, x, y)

or-true : (a b : Bool) → b ≡ true → (a || b) ≡ true
or-true true b is = refl
or-true false b is = is

in-here : (c : PlacedEntry) (cs : List (Option PlacedEntry)) (b : ℕ) → c.block ≡ b → is_in (Some c ∷ cs) b ≡ true
in-here c cs b is = ap (λ t. t || is_in cs b) (eq-eqb c.block b is)

in-later : (c : Option PlacedEntry) (cs : List (Option PlacedEntry)) (b : ℕ) → is_in cs b ≡ true → is_in (c ∷ cs) b ≡ true
in-later c cs b is = or-true (is_of c b) (is_in cs b) is

not-counted : (c : PlacedEntry) (cs : List (Option PlacedEntry)) → is_in cs c.block ≡ true → count_of (last_block (Some c) cs) ≡ 0
not-counted c cs is = ap (λ t. count_of (cond t None (Some c.block))) is

-- the last one is in the block of one of the first two
pub over-blocks : (home : EntryPlace) (second : Option EntryPlace) (needs : Bool) (e f : Entry) (c d : Option PlacedEntry)
    → block_count (Some (placed home e) ∷ placed_if second e ∷ c ∷ d ∷ placed_if (cond needs (Some (name_in home second)) None) f ∷ []) ≤ 4
over-blocks home second false e f c d =
    let x = one-at-most (last_block (Some (placed home e)) (placed_if second e ∷ c ∷ d ∷ None ∷ [])) in
    let y = one-at-most (last_block (placed_if second e) (c ∷ d ∷ None ∷ [])) in
    let z = one-at-most (last_block c (d ∷ None ∷ [])) in
    let w = one-at-most (last_block d (None ∷ [])) in
    omega (arith, x, y, z, w)
over-blocks home None true e f c d =
    let x = one-at-most (last_block (Some (placed home e)) (None ∷ c ∷ d ∷ Some (placed home f) ∷ [])) in
    let y = three-blocks c d (Some (placed home f)) in
    omega (arith, x, y)
over-blocks home (Some p) true e f c d =
    let x = one-at-most (last_block (Some (placed home e)) (Some (placed p e) ∷ c ∷ d ∷ Some (placed p f) ∷ [])) in
    let y = not-counted (placed p e) (c ∷ d ∷ Some (placed p f) ∷ []) (in-later c (d ∷ Some (placed p f) ∷ []) p.block (in-later d (Some (placed p f) ∷ []) p.block (in-here (placed p f) [] p.block refl))) in
    let z = three-blocks c d (Some (placed p f)) in
    omega (arith, x, y, z)

-- the last two are in the blocks of the first two
pub onto-blocks : (home : EntryPlace) (second : Option EntryPlace) (e f : Entry) (c d : Option PlacedEntry)
    → block_count (Some (placed home e) ∷ placed_if second e ∷ c ∷ d ∷ Some (placed home f) ∷ placed_if second f ∷ []) ≤ 4
onto-blocks home None e f c d =
    let x = one-at-most (last_block (Some (placed home e)) (None ∷ c ∷ d ∷ Some (placed home f) ∷ None ∷ [])) in
    let z = one-at-most (last_block c (d ∷ Some (placed home f) ∷ None ∷ [])) in
    let w = one-at-most (last_block d (Some (placed home f) ∷ None ∷ [])) in
    let v = one-at-most (last_block (Some (placed home f)) (None ∷ [])) in
    omega (arith, x, z, w, v)
onto-blocks home (Some p) e f c d =
    let x = not-counted (placed home e) (Some (placed p e) ∷ c ∷ d ∷ Some (placed home f) ∷ Some (placed p f) ∷ []) (
    in-later (Some (placed p e)) (c ∷ d ∷ Some (placed home f) ∷ Some (placed p f) ∷ []) home.block (
    in-later c (d ∷ Some (placed home f) ∷ Some (placed p f) ∷ []) home.block (
    in-later d (Some (placed home f) ∷ Some (placed p f) ∷ []) home.block (in-here (placed home f) (Some (placed p f) ∷ []) home.block refl)))) in
    let y = not-counted (placed p e) (c ∷ d ∷ Some (placed home f) ∷ Some (placed p f) ∷ []) (
    in-later c (d ∷ Some (placed home f) ∷ Some (placed p f) ∷ []) p.block (
    in-later d (Some (placed home f) ∷ Some (placed p f) ∷ []) p.block (
    in-later (Some (placed home f)) (Some (placed p f) ∷ []) p.block (in-here (placed p f) [] p.block refl)))) in
    let z = four-blocks c d (Some (placed home f)) (Some (placed p f)) in
    omega (arith, x, y, z)

-- ── their places ──

pub inside-if : (o : Option EntryPlace) (e : Entry) (p : Option PlacedEntry) → p ≡ placed_if o e → IsInPlace o → IsInside p
inside-if None e p is low = subst IsInside (sym is) tt
inside-if (Some q) e p is low = subst IsInside (sym is) low

pub inside-one : (q : EntryPlace) (e : Entry) (p : PlacedEntry) → p ≡ placed q e → q.at < 512 → p.at < 512
inside-one q e p is low = subst (λ (p : PlacedEntry). p.at < 512) (sym is) low

pub inside-own : (o : Option FreePlace) (p : Option EntryPlace) → p ≡ entry_place o → IsInsideOwn (own_place o) → IsInPlace p
inside-own None p is low = subst IsInPlace (sym is) tt
inside-own (Some q) p is low = subst IsInPlace (sym is) low.0

pub inside-over : (other : EntryPlaces) (needs : Bool) (p : Option EntryPlace) → p ≡ second_over other needs → AreInside other → IsInPlace p
inside-over other false p is low = subst IsInPlace (sym is) tt
inside-over other true p is low = subst IsInPlace (sym is) (by other.second low.second)
  where
    by : (o : Option EntryPlace) → IsInPlace o → (name_in other.home o).at < 512
    by None l = low.home
    by (Some q) l = l
