-- Inodes and entries that name each other are a tree.
use Rattle.std.proofs.Common.{◌≡◌, ◌≢◌, ℕ, Option, Some, None, refl, sym, ap, subst, ◌⊎◌, inl, inr, ◌∙◌}
use Rattle.journal_tree.specs.declared.limits.TheConstants.{ROOT}
use Rattle.journal_tree.specs.Trees.{root_home}
use Rattle.journal_tree.specs.Rule.{Stem, HasPlace, IsBelow}
use Rattle.journal_tree.specs.Rule.IsBelow.{itself, parent}
use Rattle.journal_tree.specs.Links.{Links, IsReached, IsLinked}
use Rattle.journal_tree.specs.Links.IsReached.{the_root, by_entry}
use Rattle.journal_tree.specs.Laws.{LinksAreTrees}

-- what is in use is the root, or the entry at its home names it
named : (L : Links) → IsLinked L → (n : ℕ) (s : Stem) → L.stem n ≡ Some s → (n ≡ ROOT) ⊎ (L.entry s.home.directory s.home.place ≡ Some n)
named L linked n s is = by n s is (linked.reached n s is)
  where
    by : (n : ℕ) (s : Stem) → L.stem n ≡ Some s → IsReached L n → (n ≡ ROOT) ⊎ (L.entry s.home.directory s.home.place ≡ Some n)
    by _ s is the_root = inl refl
    by _ s is (by_entry d place n up stands) =
        let b = linked.back d place n stands in
        let q : Some b.0 ≡ Some s = sym b.1 ∙ is in
        let q2 : b.0 ≡ s = cc in
        let directory : d ≡ s.home.directory = sym b.2 ∙ ap (λ (s : Stem). s.home.directory) q2 in
        let at_place : place ≡ s.home.place = sym b.3 ∙ ap (λ (s : Stem). s.home.place) q2 in
        inr (ap (λ (d : ℕ). L.entry d s.home.place) (sym directory) ∙ ap (L.entry d) (sym at_place) ∙ stands)

-- the root's directory is none, and no entry lies in it
root_directory : (L : Links) → IsLinked L → (n : ℕ) (s : Stem) → n ≡ ROOT → L.stem n ≡ Some s → s.home.directory ≡ 0
root_directory L linked n s root is =
    let r : Stem = record { home = root_home; places = Some linked.places } in
    let e : Some s ≡ Some r = sym is ∙ ap L.stem root ∙ linked.root in
    let e2 : s ≡ r = cc in
    ap (λ (s : Stem). s.home.directory) e2

not_in_zero : (L : Links) → IsLinked L → (d place n : ℕ) → L.entry d place ≡ Some n → d ≡ 0 → ⊥
not_in_zero L linked d place n stands none = let w = linked.within d place n stands in absurd (cc (sym linked.zero ∙ ap L.stem (sym none) ∙ w.2))

pub links-are-trees : LinksAreTrees
links-are-trees L linked = record {
  root = record { places = linked.places; is = linked.root };
  zero = linked.zero;
  bounded = linked.bounded;
  hangs = λ n s is other. hangs n s other (named L linked n s is);
  names = linked.apart;
  places = λ i j s t is it d place. two i j s t is it d place (named L linked i s is) (named L linked j t it);
  leads = λ n s is. leads n (linked.reached n s is);
}
  where
    hangs : (n : ℕ) (s : Stem) → n ≢ ROOT → (n ≡ ROOT) ⊎ (L.entry s.home.directory s.home.place ≡ Some n) → HasPlace L.stem s.home.directory s.home.place
    hangs n s other (inl root) = absurd (other root)
    hangs n s other (inr stands) = linked.within s.home.directory s.home.place n stands

    two : (i j : ℕ) (s t : Stem) → L.stem i ≡ Some s → L.stem j ≡ Some t → s.home.directory ≡ t.home.directory → s.home.place ≡ t.home.place
        → (i ≡ ROOT) ⊎ (L.entry s.home.directory s.home.place ≡ Some i) → (j ≡ ROOT) ⊎ (L.entry t.home.directory t.home.place ≡ Some j) → i ≡ j
    two i j s t is it d place (inl a) (inl b) = a ∙ sym b
    two i j s t is it d place (inl a) (inr b) = absurd (not_in_zero L linked t.home.directory t.home.place j b (sym d ∙ root_directory L linked i s a is))
    two i j s t is it d place (inr a) (inl b) = absurd (not_in_zero L linked s.home.directory s.home.place i a (d ∙ root_directory L linked j t b it))
    two i j s t is it d place (inr a) (inr b) =
        let e : Some i ≡ Some j = sym a ∙ ap (λ (d : ℕ). L.entry d s.home.place) d ∙ ap (L.entry t.home.directory) place ∙ b in cc

    leads : (n : ℕ) → IsReached L n → IsBelow L.stem ROOT n
    leads _ the_root = itself
    leads _ (by_entry d place n up stands) =
        let b = linked.back d place n stands in
        parent n b.0 b.1 (subst (IsBelow L.stem ROOT) (sym b.2) (leads d up))
