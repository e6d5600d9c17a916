-- Blocks are taken for a node that gets some.
use Rattle.std.proofs.Common.{◌≡◌, ◌≢◌, ℕ, ◌+◌, ◌-◌, ◌*◌, ◌<◌, ◌≤◌, cond, eqb, List, length, get_or, replicate, Option, Some, refl, sym, ap, subst, ◌⊎◌, inl, inr, ◌∙◌, arith}
use Rattle.std.specs.Prelude.{nat_lt}
use Rattle.std.proofs.lemmas.Bool.{cases_eq, eq-eqb, ne_eqb}
use Rattle.std.proofs.lemmas.List.{length-replicate, ext_get_or}
use Rattle.journal_treestore.specs.declared.inode.Head.{Head}
use Rattle.journal_treestore.specs.Bytes.{with_piece}
use Rattle.journal_treestore.specs.Views.{View, zero_block, bytes_in}
use Rattle.journal_treestore.proofs.Recording.{zero-long}
use Rattle.journal_treecalls.specs.declared.reach.Reach.{Reach}
use Rattle.journal_treecalls.specs.declared.reach.Numbers.{Numbers}
use Rattle.journal_treecalls.specs.declared.reach.SpareBlock.{SpareBlock}
use Rattle.journal_treecalls.specs.Disks.{Learns}
use Rattle.journal_treecalls.specs.Fetches.{number_at}
use Rattle.journal_treecalls.specs.Blocks.{HasFreeBlock}
use Rattle.journal_treecalls.specs.Reaches.{reach_count, reach_place, IsReach, is_leafed, is_rooted, numbered, leaf_bytes, root_bytes, AreSized, AreSame, CopiesBlock, HasLeaves, HasNumbers, IsSpare, IsNextSpare, IsSpareAt, IsSpareHere, IsAmong, AreTaken, TakesPlaces, TakesPlace, TakesOne, IsTaken}
use Rattle.journal_treecalls.proofs.Learning.{learns-as, learns-then}
use Rattle.journal_treecalls.proofs.Births.{zeros-get}
use Rattle.journal_treecalls.proofs.Holding.{zero-at}
use Rattle.journal_treecalls.proofs.Fetching.{length-put, put-before, put-inside, put-after, range-long, range-at}
use Rattle.journal_treecalls.proofs.Reaching.{place-once}

-- ── a spare block ──

pub spare-next : (first old new : View → Type 0) (spare : List ℕ) (from at b : ℕ) (o : Option ℕ) → from ≤ at → o ≡ Some b → ((V : View) → old V → first V) → Learns old new (λ V. IsSpareHere V spare at o)
    → Learns first new (λ V. IsNextSpare V spare from (Some (record { block = b; next = at + 1 })))
spare-next first old new spare from at b o past is same l = record { before = λ V m. same V (l.before V m); now = λ V m. by V (subst (IsSpareHere V spare at) is (l.now V m)) }
  where
    by : (V : View) → IsSpareAt V spare at b → IsSpare V spare from (record { block = b; next = at + 1 })
    by V s = record {
      free = s.free;
      new = λ i low. s.new i (omega (arith, low, past));
      later = omega (arith, past);
      is = ap (λ i. get_or spare i 0) (let e : at + 1 - 1 ≡ at = omega arith in e) ∙ s.is;
    }

-- ── one place ──

module _ (r : Reach) (old : Numbers) (spare : List ℕ) (m at place number : ℕ) (place_is : place ≡ reach_place r m) (number_is : (others : ℕ → ℕ) → number ≡ numbered others r old place) where
  pub place-had : (may : View → Type 0) → number ≢ 0 → Learns may may (λ V. TakesOne V r old old spare m at (Some at))
  place-had may there = record {
    before = λ V m. m;
    now = λ V m. record {
      more = omega arith;
      kept = λ others p f. refl;
      free = λ others none. absurd (there (number_is others ∙ ap (numbered others r old) place_is ∙ none));
      new_one = λ others none. absurd (there (number_is others ∙ ap (numbered others r old) place_is ∙ none));
      among = λ others none. absurd (there (number_is others ∙ ap (numbered others r old) place_is ∙ none));
    };
  }

  module _ (new : Numbers) (found : SpareBlock) (set : (others : ℕ → ℕ) (p : ℕ) → numbered others r new p ≡ cond (eqb p place) found.block (numbered others r old p)) where
    here : (others : ℕ → ℕ) → numbered others r new (reach_place r m) ≡ found.block
    here others = set others (reach_place r m) ∙ ap (λ t. cond t found.block (numbered others r old (reach_place r m))) (eq-eqb (reach_place r m) place (sym place_is))

    elsewhere : (others : ℕ → ℕ) (p : ℕ) → p ≢ place → numbered others r new p ≡ numbered others r old p
    elsewhere others p other = set others p ∙ ap (λ t. cond t found.block (numbered others r old p)) (ne_eqb p place other)

    pub place-new : (first last : View → Type 0) (o : Option SpareBlock) → number ≡ 0 → o ≡ Some found → Learns first last (λ V. IsNextSpare V spare at o) → Learns first last (λ V. TakesOne V r old new spare m at (Some found.next))
    place-new first last o none is l = learns-as first last _ _ l (λ V m next. by V (subst (IsNextSpare V spare at) is next))
      where
        by : (V : View) → IsSpare V spare at found → TakesPlace V r old new spare m at found.next
        by V s = record {
          more = let l = s.later in omega (arith, l);
          kept = λ others p f. elsewhere others p (λ same. f (same ∙ place_is) (ap (numbered others r old) same ∙ sym (number_is others) ∙ none));
          free = λ others _. subst (HasFreeBlock V) (sym (here others)) s.free;
          new_one = λ others _ i low e. s.new i low (e ∙ here others);
          among = λ others _. (found.next - 1, (let l = s.later in omega (arith, l)), s.is ∙ sym (here others));
        }

-- ── place after place ──

-- the same numbers
pub numbered-same : (others : ℕ → ℕ) (r : Reach) (old new : Numbers) (p : ℕ) → AreSame old new → numbered others r new p ≡ numbered others r old p
unfolding numbered
numbered-same others r old new p same = λ z.
    cond (nat_lt p 48) (get_or (same.direct z) p 0) (cond (is_leafed r p) (number_at (same.leaves z) (p - (48 + 1024 * r.leaf))) (cond (eqb p 2147483648) (same.index z) (cond (is_rooted r p) (number_at (same.root z) (p - 2147483649)) (others p))))

pub same-sized : (r : Reach) (old new : Numbers) → AreSame old new → AreSized r old → AreSized r new
same-sized r old new same sized = record { direct = ap length same.direct ∙ sized.direct; root = ap length same.root ∙ sized.root; leaves = ap length same.leaves ∙ sized.leaves }

module _ (V : View) (r : Reach) (fit : IsReach r) (old : Numbers) (spare : List ℕ) where
  taken-none : (new : Numbers) → AreSame old new → TakesPlaces V r old new spare 0 0
  taken-none new same = record {
    taken = λ others. record {
      kept = λ p f. numbered-same others r old new p same;
      free = λ i low. absurd (omega (arith, low));
      apart = λ i k low. absurd (omega (arith, low));
    };
    among = λ others i low. absurd (omega (arith, low));
  }

  module _ (mid new : Numbers) (m at next : ℕ) (low : m < reach_count r) (before : TakesPlaces V r old mid spare m at) (place : TakesPlace V r mid new spare m at next) (others : ℕ → ℕ) where
    abbrev q : ℕ → ℕ
    q i = reach_place r i

    abbrev was : ℕ → ℕ
    was p = numbered others r old p

    abbrev then_is : ℕ → ℕ
    then_is p = numbered others r mid p

    abbrev now_is : ℕ → ℕ
    now_is p = numbered others r new p

    -- this place has not been reached yet
    same-here : numbered others r mid (reach_place r m) ≡ numbered others r old (reach_place r m)
    same-here = (before.taken others).kept (q m) (λ i l e. absurd (place-once r fit i m (omega (arith, l, low)) low (λ s. absurd (omega (arith, s, l))) e))

    -- and the others are done
    same-before : (i : ℕ) → i < m → numbered others r new (reach_place r i) ≡ numbered others r mid (reach_place r i)
    same-before i l = place.kept others (q i) (λ e. absurd (place-once r fit i m (omega (arith, l, low)) low (λ s. absurd (omega (arith, s, l))) e))

    kept : (p : ℕ) → ((i : ℕ) → i < m + 1 → reach_place r i ≡ p → numbered others r old p ≢ 0) → numbered others r new p ≡ numbered others r old p
    kept p f = place.kept others p (λ e z. f m (omega arith) (sym e) (sym mid_is ∙ z)) ∙ mid_is
      where
        mid_is : then_is p ≡ was p
        mid_is = (before.taken others).kept p (λ i l. f i (omega (arith, l)))

    free : (i : ℕ) → i < m + 1 → numbered others r old (reach_place r i) ≡ 0 → (i ≡ m) ⊎ (i ≡ m → ⊥) → HasFreeBlock V (numbered others r new (reach_place r i))
    free i l none (inl e) = subst (λ i. HasFreeBlock V (now_is (q i))) (sym e) (place.free others (same-here ∙ ap (λ i. was (q i)) (sym e) ∙ none))
    free i l none (inr other) = subst (HasFreeBlock V) (sym (same-before i (omega (arith, l, other)))) ((before.taken others).free i (omega (arith, l, other)) none)

    -- the new one is none of those before
    apart-here : (i : ℕ) → i < m → numbered others r old (reach_place r i) ≡ 0 → numbered others r old (reach_place r m) ≡ 0 → numbered others r new (reach_place r i) ≢ numbered others r new (reach_place r m)
    apart-here i l none here e =
        let a = before.among others i l none in
        place.new_one others (same-here ∙ here) a.0 a.1 (a.2 ∙ sym (same-before i l) ∙ e)

    apart : (i k : ℕ) → i < m + 1 → k < m + 1 → i ≢ k → numbered others r old (reach_place r i) ≡ 0 → numbered others r old (reach_place r k) ≡ 0 → (i ≡ m) ⊎ (i ≡ m → ⊥) → (k ≡ m) ⊎ (k ≡ m → ⊥)
        → numbered others r new (reach_place r i) ≢ numbered others r new (reach_place r k)
    apart i k l j other a b (inl e) (inl d) = absurd (other (e ∙ sym d))
    apart i k l j other a b (inl e) (inr d) = λ g. apart-here k (omega (arith, j, d)) b (ap (λ i. was (q i)) (sym e) ∙ a) (sym g ∙ ap (λ i. now_is (q i)) e)
    apart i k l j other a b (inr e) (inl d) = λ g. apart-here i (omega (arith, l, e)) a (ap (λ i. was (q i)) (sym d) ∙ b) (g ∙ ap (λ i. now_is (q i)) d)
    apart i k l j other a b (inr e) (inr d) = λ g. (before.taken others).apart i k (omega (arith, l, e)) (omega (arith, j, d)) other a b (sym (same-before i (omega (arith, l, e))) ∙ g ∙ same-before k (omega (arith, j, d)))

    among : (i : ℕ) → i < m + 1 → numbered others r old (reach_place r i) ≡ 0 → (i ≡ m) ⊎ (i ≡ m → ⊥) → IsAmong spare next (numbered others r new (reach_place r i))
    among i l none (inl e) = subst (λ i. IsAmong spare next (now_is (q i))) (sym e) (place.among others (same-here ∙ ap (λ i. was (q i)) (sym e) ∙ none))
    among i l none (inr other) =
        let a = (before.among others i (omega (arith, l, other)) none) in
        let less = a.1 in let more = place.more in
        (a.0, omega (arith, less, more), a.2 ∙ sym (same-before i (omega (arith, l, other))))

  taken-next : (mid new : Numbers) (m at next : ℕ) → m < reach_count r → TakesPlaces V r old mid spare m at → TakesPlace V r mid new spare m at next → TakesPlaces V r old new spare (m + 1) next
  taken-next mid new m at next low before place = record {
    taken = λ others. record {
      kept = kept mid new m at next low before place others;
      free = λ i l none. free mid new m at next low before place others i l none (cases_eq i m);
      apart = λ i k l j other a b. apart mid new m at next low before place others i k l j other a b (cases_eq i m) (cases_eq k m);
    };
    among = λ others i l none. among mid new m at next low before place others i l none (cases_eq i m);
  }

pub taken-begin : (may : View → Type 0) (r : Reach) (old new : Numbers) (spare : List ℕ) → IsReach r → AreSame old new → Learns may may (λ V. TakesPlaces V r old new spare 0 0)
taken-begin may r old new spare fit same = record { before = λ V m. m; now = λ V m. taken-none V r fit old spare new same }

pub taken-more : (first last final : View → Type 0) (r : Reach) (old mid new : Numbers) (spare : List ℕ) (m at next : ℕ) (o : Option ℕ) → IsReach r → m < reach_count r → o ≡ Some next → Learns first last (λ V. TakesPlaces V r old mid spare m at)
    → Learns last final (λ V. TakesOne V r mid new spare m at o) → Learns first final (λ V. TakesPlaces V r old new spare (m + 1) next)
taken-more first last final r old mid new spare m at next o fit low is l k = learns-then first last final _ _ l k _ (λ V _ before place. taken-next V r fit old spare mid new m at next low before (subst (TakesOne V r mid new spare m at) is place))

pub taken-all : (first last : View → Type 0) (r : Reach) (old new : Numbers) (spare : List ℕ) (m at : ℕ) → m ≡ reach_count r → Learns first last (λ V. TakesPlaces V r old new spare m at) → Learns first last (λ V. IsTaken V r old (Some new))
taken-all first last r old new spare m at end l = learns-as first last _ _ l (λ V _ t others. subst (λ m. AreTaken V others r old new m) end (t.taken others))

-- ── the numbers that a file has ──

-- bytes of a block over others
copied-whole : (v : List ℕ) (i : ℕ) (piece : List ℕ) → length piece ≡ 4096 → 4096 * i + 4096 ≤ length v → leaf_bytes (with_piece v (4096 * i) piece) i ≡ piece
copied-whole v i piece whole room = ext_get_or 0 (leaf_bytes (with_piece v (4096 * i) piece) i) piece (long ∙ sym whole) (λ k low. at k (let l = long in omega (arith, l, low)))
  where
    fits : 4096 * i + length piece ≤ length v
    fits = omega (arith, whole, room)

    long : length (leaf_bytes (with_piece v (4096 * i) piece) i) ≡ 4096
    long = range-long (with_piece v (4096 * i) piece) (4096 * i) (4096 * i + 4096) (let l = length-put v (4096 * i) piece fits in omega (arith, l, room)) ∙ (let e : 4096 * i + 4096 - 4096 * i ≡ 4096 = omega arith in e)

    at : (k : ℕ) → k < 4096 → get_or (leaf_bytes (with_piece v (4096 * i) piece) i) k 0 ≡ get_or piece k 0
    at k low =
        range-at (with_piece v (4096 * i) piece) (4096 * i) (4096 * i + 4096) k (omega (arith, low))
        ∙ put-inside v (4096 * i) piece fits (4096 * i + k) (omega arith) (omega (arith, low, whole))
        ∙ ap (λ j. get_or piece j 0) (let e : 4096 * i + k - 4096 * i ≡ k = omega arith in e)

-- and those of other blocks stay
copied-other : (v : List ℕ) (i l : ℕ) (piece : List ℕ) → length piece ≡ 4096 → 4096 * i + 4096 ≤ length v → l < i → leaf_bytes (with_piece v (4096 * i) piece) l ≡ leaf_bytes v l
copied-other v i l piece whole room low = ext_get_or 0 (leaf_bytes (with_piece v (4096 * i) piece) l) (leaf_bytes v l) (long (with_piece v (4096 * i) piece) (let z = put_long in omega (arith, z, room, low)) ∙ sym (long v (omega (arith, room, low)))) (λ k few. at k (let z = long (with_piece v (4096 * i) piece) (let z = put_long in omega (arith, z, room, low)) in omega (arith, z, few)))
  where
    fits : 4096 * i + length piece ≤ length v
    fits = omega (arith, whole, room)

    put_long : length (with_piece v (4096 * i) piece) ≡ length v
    put_long = length-put v (4096 * i) piece fits

    long : (w : List ℕ) → 4096 * l + 4096 ≤ length w → length (leaf_bytes w l) ≡ 4096
    long w inside = range-long w (4096 * l) (4096 * l + 4096) inside ∙ (let e : 4096 * l + 4096 - 4096 * l ≡ 4096 = omega arith in e)

    at : (k : ℕ) → k < 4096 → get_or (leaf_bytes (with_piece v (4096 * i) piece) l) k 0 ≡ get_or (leaf_bytes v l) k 0
    at k few =
        range-at (with_piece v (4096 * i) piece) (4096 * l) (4096 * l + 4096) k (omega (arith, few))
        ∙ put-before v (4096 * i) piece fits (4096 * l + k) (omega (arith, few, low))
        ∙ sym (range-at v (4096 * l) (4096 * l + 4096) k (omega (arith, few)))

blank-leaf : (v : List ℕ) (i : ℕ) → 4096 * i + 4096 ≤ length v → ((k : ℕ) → 4096 * i ≤ k → get_or v k 0 ≡ 0) → leaf_bytes v i ≡ zero_block
blank-leaf v i room blank = ext_get_or 0 (leaf_bytes v i) zero_block (long ∙ sym zero-long) (λ k low. at k (let l = long in omega (arith, l, low)))
  where
    long : length (leaf_bytes v i) ≡ 4096
    long = range-long v (4096 * i) (4096 * i + 4096) room ∙ (let e : 4096 * i + 4096 - 4096 * i ≡ 4096 = omega arith in e)

    at : (k : ℕ) → k < 4096 → get_or (leaf_bytes v i) k 0 ≡ get_or zero_block k 0
    at k low = range-at v (4096 * i) (4096 * i + 4096) k (omega (arith, low)) ∙ blank (4096 * i + k) (omega arith) ∙ sym (zero-at k low)

-- a block that is there, or zeros
copied-leaf : (V : View) (b i : ℕ) (v w : List ℕ) → 4096 * i + 4096 ≤ length v → ((k : ℕ) → 4096 * i ≤ k → get_or v k 0 ≡ 0) → CopiesBlock V b (4096 * i) v w → leaf_bytes w i ≡ bytes_in V b
copied-leaf V b i v w room blank c = by (cases_eq b 0)
  where
    by : (b ≡ 0) ⊎ (b ≡ 0 → ⊥) → leaf_bytes w i ≡ bytes_in V b
    by (inl none) = ap (λ w. leaf_bytes w i) (c.none none) ∙ blank-leaf v i room blank ∙ sym (ap (λ t. cond t zero_block (V.block b)) (eq-eqb b 0 none))
    by (inr some) = ap (λ w. leaf_bytes w i) (c.some some) ∙ copied-whole v i (V.block b) (c.whole some) room ∙ sym (ap (λ t. cond t zero_block (V.block b)) (ne_eqb b 0 some))

leaves-next : (V : View) (r : Reach) (root : List ℕ) (i : ℕ) (v w : List ℕ) → 4096 * i + 4096 ≤ length v → HasLeaves V r root i v → CopiesBlock V (number_at root (r.leaf + i)) (4096 * i) v w → HasLeaves V r root (i + 1) w
leaves-next V r root i v w room has c = record {
  are = λ l low. are l low (cases_eq l i);
  rest = λ k past. rest k past (cases_eq (number_at root (r.leaf + i)) 0);
}
  where
    are : (l : ℕ) → l < i + 1 → (l ≡ i) ⊎ (l ≡ i → ⊥) → leaf_bytes w l ≡ bytes_in V (number_at root (r.leaf + l))
    are l low (inl e) = ap (leaf_bytes w) e ∙ copied-leaf V (number_at root (r.leaf + i)) i v w room has.rest c ∙ ap (λ l. bytes_in V (number_at root (r.leaf + l))) (sym e)
    are l low (inr other) = stays (cases_eq (number_at root (r.leaf + i)) 0) ∙ has.are l (omega (arith, low, other))
      where
        stays : (number_at root (r.leaf + i) ≡ 0) ⊎ (number_at root (r.leaf + i) ≡ 0 → ⊥) → leaf_bytes w l ≡ leaf_bytes v l
        stays (inl none) = ap (λ w. leaf_bytes w l) (c.none none)
        stays (inr some) = ap (λ w. leaf_bytes w l) (c.some some) ∙ copied-other v i l (V.block (number_at root (r.leaf + i))) (c.whole some) room (omega (arith, low, other))

    rest : (k : ℕ) → 4096 * (i + 1) ≤ k → (number_at root (r.leaf + i) ≡ 0) ⊎ (number_at root (r.leaf + i) ≡ 0 → ⊥) → get_or w k 0 ≡ 0
    rest k past (inl none) = ap (λ w. get_or w k 0) (c.none none) ∙ has.rest k (omega (arith, past))
    rest k past (inr some) =
        ap (λ w. get_or w k 0) (c.some some)
        ∙ put-after v (4096 * i) (V.block (number_at root (r.leaf + i))) (let z = c.whole some in omega (arith, z, room)) k (let z = c.whole some in omega (arith, z, past))
        ∙ has.rest k (omega (arith, past))

pub leaves-begin : (may : View → Type 0) (r : Reach) (root : List ℕ) (n : ℕ) (v : List ℕ) → v ≡ replicate n 0 → Learns may may (λ V. HasLeaves V r root 0 v)
leaves-begin may r root n v is = record { before = λ V m. m; now = λ V m. record { are = λ l low. absurd (omega (arith, low)); rest = λ k past. ap (λ v. get_or v k 0) is ∙ zeros-get n k } }

pub leaves-more : (first last new : View → Type 0) (r : Reach) (root : List ℕ) (i b at : ℕ) (v w : List ℕ) → 4096 * i + 4096 ≤ length v → b ≡ number_at root (r.leaf + i) → at ≡ 4096 * i → Learns first last (λ V. HasLeaves V r root i v)
    → Learns last new (λ V. CopiesBlock V b at v w) → Learns first new (λ V. HasLeaves V r root (i + 1) w)
leaves-more first last new r root i b at v w room b_is at_is l k = learns-then first last new _ _ l k _ (λ V _ has c. leaves-next V r root i v w room has (subst (λ b. CopiesBlock V b (4096 * i) v w) b_is (subst (λ at. CopiesBlock V b at v w) at_is c)))

pub leaves-all : (first last : View → Type 0) (r : Reach) (root : List ℕ) (i : ℕ) (v : List ℕ) → i ≡ r.leaves → Learns first last (λ V. HasLeaves V r root i v) → Learns first last (λ V. HasLeaves V r root r.leaves v)
leaves-all first last r root i v end l = learns-as first last _ _ l (λ V _ has. subst (λ i. HasLeaves V r root i v) end has)

pub root-long-some : (r : Reach) (v w : List ℕ) → r.leaves ≢ 0 → v ≡ replicate 4096 0 → length w ≡ length v → length w ≡ root_bytes r
root-long-some r v w some is same = same ∙ ap length is ∙ length-replicate {A = ℕ} 4096 0 ∙ sym (ap (λ t. cond t 0 4096) (ne_eqb r.leaves 0 some))

pub root-read : (old new : View → Type 0) (h : Head) (r : Reach) (v w : List ℕ) → v ≡ replicate 4096 0 → length w ≡ length v → Learns old new (λ V. CopiesBlock V h.index 0 v w) → Learns old new (λ V. r.leaves ≢ 0 → w ≡ bytes_in V h.index)
root-read old new h r v w is same l = learns-as old new _ _ l (λ V _ c there.
    sym (take-all w (same ∙ long))
    ∙ copied-leaf V h.index 0 v w (omega (arith, long)) (λ k past. ap (λ v. get_or v k 0) is ∙ zeros-get 4096 k) c)
  where
    long : length v ≡ 4096
    long = ap length is ∙ length-replicate {A = ℕ} 4096 0

    take-all : (w : List ℕ) → length w ≡ 4096 → leaf_bytes w 0 ≡ w
    take-all w whole = ext_get_or 0 (leaf_bytes w 0) w (long_all ∙ sym whole) (λ k low. range-at w (4096 * 0) (4096 * 0 + 4096) k (let z = long_all in omega (arith, z, low)) ∙ ap (λ i. get_or w i 0) (let e : 4096 * 0 + k ≡ k = omega arith in e))
      where
        long_all : length (leaf_bytes w 0) ≡ 4096
        long_all = range-long w (4096 * 0) (4096 * 0 + 4096) (omega (arith, whole)) ∙ (let e : 4096 * 0 + 4096 - 4096 * 0 ≡ 4096 = omega arith in e)

pub numbers-read : (first mid last : View → Type 0) (h : Head) (r : Reach) (s : Numbers) (root given : List ℕ) → s.direct ≡ h.blocks → s.index ≡ h.index → s.root.items ≡ root → given ≡ root → Learns first mid (λ V. r.leaves ≢ 0 → root ≡ bytes_in V h.index)
    → Learns mid last (λ V. HasLeaves V r given r.leaves s.leaves.items) → Learns first last (λ V. HasNumbers V h r s)
numbers-read first mid last h r s root given direct index same given_is l k = learns-then first mid last _ _ l k _ (λ V _ root_is has. record {
  direct = direct;
  index = index;
  root = λ there. same ∙ root_is there;
  leaves = λ i low. has.are i low ∙ ap (λ v. bytes_in V (number_at v (r.leaf + i))) (given_is ∙ sym same);
})
