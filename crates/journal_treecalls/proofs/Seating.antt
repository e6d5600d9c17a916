-- A node that was found hangs where it was found.
use Rattle.std.proofs.Common.{◌≡◌, ◌≢◌, ℕ, ◌+◌, ◌*◌, ◌/◌, ◌%◌, ◌<◌, Bool, true, false, cond, List, [], Option, Some, None, refl, sym, ap, subst, ◌⊎◌, inl, inr, ◌∙◌, arith}
use Rattle.std.specs.Prelude.{◌==◌, ◌&&◌}
use Rattle.std.proofs.lemmas.Bool.{eqb-true, eq-eqb, and_from, and_parts, true≢false}
use Rattle.journal_tree.specs.declared.reply.Kind.TheVariants.{Directory}
use Rattle.journal_treestore.specs.declared.entry.Entry.{Entry}
use Rattle.journal_treestore.specs.Entries.{tag_of, no_entry}
use Rattle.journal_treestore.specs.Levels.{IsBlockFor}
use Rattle.journal_treestore.specs.Positions.{Position, place_at, IsPosition}
use Rattle.journal_treestore.specs.Views.{View, held_of, directory_block, entry_in, entry_by, entry_of, entry_at}
use Rattle.journal_treestore.specs.Views.Seen.{used}
use Rattle.journal_treestore.specs.Sound.{entry_for, IsSoundView}
use Rattle.journal_treestore.specs.Steps.{IsSecondAt, IsPlaced}
use Rattle.journal_treestore.proofs.Changing.{one_directory}
use Rattle.journal_treestore.proofs.Viewing.{entry_of_node}
use Rattle.journal_treestore.proofs.Placed.{hangs-in, second-block}
use Rattle.journal_treecalls.specs.declared.node.Record.{Record}
use Rattle.journal_treecalls.specs.declared.search.Hit.{Hit}
use Rattle.journal_treecalls.specs.Targets.{held, block_of, IsHit}
use Rattle.journal_treecalls.specs.Seats.{is_at_home, home_position, second_position, seat_of}
use Rattle.journal_treecalls.proofs.Searching.{own, entry-of-block}

module _ (V : View) (d : ℕ) (r : Record) (name : List ℕ) (hit : Hit) (sound : IsSoundView V) (is : V.inode d ≡ used (held r)) (kind : r.head.kind ≡ Directory) (hits : IsHit V r.head name hit) where
  -- where it was found
  which : hit.j ≡ hits.j
  which = hits.is.inside.is.which

  at-is : hit.at ≡ hits.is.inside.at
  at-is = hits.is.inside.is.place

  low : hit.at < 512
  low = let e = at-is in let l = hits.is.inside.low in omega (arith, e, l)

  block-is : (block_of V r.head hit.j).number ≡ hit.block
  block-is = ap (λ j. (block_of V r.head j).number) which ∙ sym hits.is.inside.is.block

  there : (block_of V r.head hit.j).number ≢ 0
  there z = hits.is.there (ap (λ j. (block_of V r.head j).number) (sym which) ∙ z)

  pub hit-names : (entry_at V d (512 * hit.j + hit.at)).number ≡ hit.number
  hit-names =
      ap (λ j. (entry_at V d (512 * j + hit.at)).number) which
      ∙ ap (λ q. (entry_at V d (512 * hits.j + q)).number) at-is
      ∙ ap (λ (e : Entry). e.number) (entry-of-block V d r name sound is kind hits.j hits.is.inside.at hits.is.there hits.is.inside.low)
      ∙ hits.is.inside.is.entry

  pub hangs-there : hit.head.directory ≡ d
  hangs-there = hangs-in V d (512 * hit.j + hit.at) (held_of hit.head name) sound (λ z. hits.is.inside.is.some (sym hit-names ∙ z)) (ap V.inode hit-names ∙ hits.is.inside.is.inode)

  -- the entry at its home's place
  home-entry : entry_at V d hit.head.place ≡ entry_for hit.number (held_of hit.head name).home
  home-entry = entry_of_node V sound d hit.number (held r) (held_of hit.head name) is hits.is.inside.is.inode hangs-there

  home-block : directory_block V (held r) (hit.head.place / 512) ≢ 0
  home-block none = hits.is.inside.is.some (
      sym (ap (λ (e : Entry). e.number) home-entry)
      ∙ ap (λ (e : Entry). e.number) (
      ap (λ y. entry_of V y hit.head.place) is
      ∙ ap (λ k. entry_by V k (held r) hit.head.place) kind
      ∙ ap (λ b. entry_in V b (hit.head.place % 512)) none))

  home-is : IsPosition V (held r) (home_position V r.head hit)
  home-is = record {
    is = own V d r name sound is kind (hit.head.place / 512);
    some = λ z. home-block (own V d r name sound is kind (hit.head.place / 512) ∙ z);
    low = omega arith;
  }

  pub found-is : IsPosition V (held r) (record { j = hit.j; q = hit.at; b = hit.block })
  found-is = record {
    is = own V d r name sound is kind hit.j ∙ block-is;
    some = λ z. there (block-is ∙ z);
    low = low;
  }

  -- its second entry, if it was found there
  second-at : (b : Bool) → is_at_home hit ≡ b → IsSecondAt V (seat_of V d r hit name) (cond b None (Some (record { j = hit.j; q = hit.at; b = hit.block })))
  second-at true home = subst (IsBlockFor (tag_of name)) (sym which ∙ eqb-true hit.j (hit.head.place / 512) (and_parts (hit.j == hit.head.place / 512) (hit.at == hit.head.place % 512) home).0) hits.block
  second-at false away = (
    record {
      is = own V d r name sound is kind hit.j ∙ block-is;
      some = λ z. there (block-is ∙ z);
      low = low;
    },
    (λ same. absurd (true≢false (sym (at-home same) ∙ away))),
    hit-names,
  )
    where
      at-home : 512 * hit.j + hit.at ≡ 512 * (hit.head.place / 512) + hit.head.place % 512 → is_at_home hit ≡ true
      at-home same =
          let l = low in
          and_from (hit.j == hit.head.place / 512) (hit.at == hit.head.place % 512)
          (eq-eqb hit.j (hit.head.place / 512) (omega (arith, same, l)))
          (eq-eqb hit.at (hit.head.place % 512) (omega (arith, same, l)))

  pub seat-is : IsPlaced V (seat_of V d r hit name)
  seat-is = record {
    is = is;
    kind = kind;
    some = hits.is.inside.is.some;
    node = hits.is.inside.is.inode;
    directory = hangs-there;
    place = omega arith;
    at = home-is;
    more = second-at (is_at_home hit) refl;
  }

  -- the blocks of its two entries are not the same
  pub second-apart : (p : Position) → second_position hit ≡ Some p → p.b ≢ (home_position V r.head hit).b
  second-apart p more same = both.1 (subst (IsBlockFor (tag_of name)) j-same both.0)
    where
      both : IsBlockFor (tag_of name) p.j × (IsBlockFor (tag_of name) (hit.head.place / 512) → ⊥)
      both = second-block V sound (seat_of V d r hit name) seat-is p more

      position : IsPosition V (held r) p
      position = (subst (IsSecondAt V (seat_of V d r hit name)) more seat-is.more).0

      j-same : p.j ≡ hit.head.place / 512
      j-same = (one_directory V d d (held r) (held r) p.j (hit.head.place / 512) (sound.inodes d (held r) is) (sound.inodes d (held r) is)
          (λ z. position.some (sym position.is ∙ z)) (position.is ∙ same ∙ sym home-is.is)).1
