-- Room for a node: what is learned of it, step by step.
use Rattle.std.proofs.Common.{◌≡◌, ◌≢◌, ℕ, ◌+◌, ◌-◌, ◌*◌, ◌<◌, Bool, true, false, cond, List, [], get_or, Option, Some, None, refl, sym, ap, subst, ◌∙◌, arith}
use Rattle.std.specs.Prelude.{nat_lt}
use Rattle.std.proofs.lemmas.Bool.{eq-eqb, ne_eqb, ltb-true}
use Rattle.journal_tree.specs.declared.limits.TheConstants.{LAST_GENERATION}
use Rattle.journal_treestore.specs.declared.inode.Head.{Head}
use Rattle.journal_treestore.specs.declared.inode.Inode.{Inode}
use Rattle.journal_treestore.specs.declared.inode.Inode.TheVariants.{Free}
use Rattle.journal_treestore.specs.Bytes.{word_at}
use Rattle.journal_treestore.specs.Entries.{entry_from}
use Rattle.journal_treestore.specs.Levels.{level_block}
use Rattle.journal_treestore.specs.Levels.IsBlockFor.{any_name, in_level}
use Rattle.journal_treestore.specs.Views.{View, held_of, seen, number_in}
use Rattle.journal_treestore.proofs.Indexing.{directory-first}
use Rattle.journal_treestore.proofs.Leveling.{level-low}
use Rattle.journal_treecalls.specs.declared.search.DirectoryBlock.{DirectoryBlock}
use Rattle.journal_treecalls.specs.declared.reach.Reach.{Reach}
use Rattle.journal_treecalls.specs.declared.reach.Numbers.{Numbers}
use Rattle.journal_treecalls.specs.declared.growth.Growth.{Growth}
use Rattle.journal_treecalls.specs.declared.room.FreeNumber.{FreeNumber}
use Rattle.journal_treecalls.specs.declared.room.FreePlace.{FreePlace}
use Rattle.journal_treecalls.specs.declared.room.NewPlace.{NewPlace}
use Rattle.journal_treecalls.specs.declared.room.NewPlace.TheVariants.{Here, Further}
use Rattle.journal_treecalls.specs.declared.room.FreeRoom.{FreeRoom}
use Rattle.journal_treecalls.specs.Disks.{Learns}
use Rattle.journal_treecalls.specs.Targets.{IsInode, level_number, block_of}
use Rattle.journal_treecalls.specs.Fetches.{number_at, file_index}
use Rattle.journal_treecalls.specs.Reaches.{IsChanging, reach_for, IsReach, HasNumbers, AreSized, IsTaken, IsSizedTaken}
use Rattle.journal_treecalls.specs.Rooms.{IsFreeNumber, HasFreeNumber, if_young, IsYoung, IsEmptyIn, HasPlaceIn, IsPlaceIn, HasFirstPlace, IsFirstPlace, IsLevelPlace, HasPlaceOf, IsPlaceOf, IsPlaceInside, IsHoleIn, IsFurther, IsFurtherBlock, IsLowBlock, HasGrowthAt, IsGrowthAt, HasGrowth, IsFitGrowthAt, IsPlaceFor, IsFitPlace, IsRoomFor, IsFitRoom, room_of}
use Rattle.journal_treecalls.proofs.Learning.{learns-as, learns-then}
use Rattle.journal_treecalls.proofs.Searching.{direct-is, level-is, number-is}

-- ── a number that is free ──

pub young-number : (number generation : ℕ) (o : Option FreeNumber) → o ≡ if_young number generation → IsYoung o
young-number number generation o is = subst IsYoung (sym is) (by (nat_lt generation LAST_GENERATION) refl)
  where
    by : (b : Bool) → nat_lt generation LAST_GENERATION ≡ b → IsYoung (cond b (Some (record { number = number; generation = generation })) None)
    by true low = ltb-true generation LAST_GENERATION low
    by false low = tt

pub free-number : (old new : View → Type 0) (number count index generation : ℕ) (x : Inode) (o : Option FreeNumber) → Learns old new (λ V. IsInode V number x) → x ≡ Free generation → o ≡ if_young number generation
    → number ≢ 0 → ((V : View) → old V → V.numbers ≡ count) → index ≡ number → index < count → Learns old new (λ V. IsFreeNumber V o)
free-number old new number count index generation x o l kind is some counts index_is low = record {
  before = l.before;
  now = λ V m. subst (IsFreeNumber V) (sym is) (by V m (nat_lt generation LAST_GENERATION) refl);
}
  where
    by : (V : View) → new V → (b : Bool) → nat_lt generation LAST_GENERATION ≡ b → IsFreeNumber V (cond b (Some (record { number = number; generation = generation })) None)
    by V m false low_is = tt
    by V m true low_is = record {
      some = some;
      on_disk = subst (λ n. number < n) (sym (counts V (l.before V m))) (subst (λ n. n < count) index_is low);
      is = let at = l.now V m in at.1 ∙ ap (λ x. seen x at.0) kind;
      young = ltb-true generation LAST_GENERATION low_is;
    }

-- ── a place that is free ──

pub place-some : (old new : View → Type 0) (b : DirectoryBlock) (v w : List ℕ) (o : Option ℕ) (at : ℕ) → Learns old new (λ V. V.block b.number ≡ v) → w ≡ v → b.number ≢ 0 → IsEmptyIn w o → o ≡ Some at
    → Learns old new (λ V. IsPlaceIn V b (Some (record { j = b.j; block = b.number; at = at })))
place-some old new b v w o at l same some empty is = learns-as old new _ _ l (λ V m block.
    let e = subst (IsEmptyIn w) is empty in
    record { which = refl; block = refl; there = some; low = e.0; empty = ap (λ v. (entry_from v at).number) (block ∙ sym same) ∙ e.1 })

pub place-inside : (b : DirectoryBlock) (w : List ℕ) (o : Option ℕ) (at : ℕ) → b.j < 388 → IsEmptyIn w o → o ≡ Some at → IsPlaceInside (Some (record { j = b.j; block = b.number; at = at }))
place-inside b w o at few empty is = ((subst (IsEmptyIn w) is empty).0, few)

pub level-few : (v : List ℕ) (tag level : ℕ) (b : DirectoryBlock) → b ≡ level_number v tag level → level < 4 → b.j < 388
level-few v tag level b which low = let few = level-low tag level low in let is = ap (λ (b : DirectoryBlock). b.j) which in omega (arith, few, is)

-- of a directory
pub place-first : (old new : View → Type 0) (h : Head) (tag : ℕ) (o : Option FreePlace) (p : FreePlace) → o ≡ Some p → Learns old new (λ V. IsFirstPlace V h.blocks o) → Learns old new (λ V. IsPlaceOf V h tag (Some p))
place-first old new h tag o p is l = learns-as old new _ _ l (λ V m k. by V (subst (IsFirstPlace V h.blocks) is k))
  where
    by : (V : View) → HasFirstPlace V h.blocks p → HasPlaceOf V h tag p
    by V k = record {
      block_for = any_name (let e = k.is.which in let l = k.low in omega (arith, e, l));
      is = subst (λ b. HasPlaceIn V b p) (direct-is V h k.j k.low ∙ ap (block_of V h) (sym k.is.which)) k.is;
    }

pub place-level : (first old new last : View → Type 0) (h : Head) (tag leaf : ℕ) (v w : List ℕ) (o : Option FreePlace) → Learns first old (λ V. file_index V h 0 ≡ leaf) → leaf ≢ 0 → w ≡ v → Learns old new (λ V. V.block leaf ≡ v)
    → Learns new last (λ V. IsLevelPlace V w tag o) → Learns first last (λ V. IsPlaceOf V h tag o)
place-level first old new last h tag leaf v w o index some same block l =
    learns-then first old last _ _ index (learns-then old new last _ _ block l (λ V. (V.block leaf ≡ v) × IsLevelPlace V w tag o) (λ V m is here. (is, here))) _
    (λ V m is both. by V o is both.0 (subst (λ v. IsLevelPlace V v tag o) same both.1))
  where
    by : (V : View) (o : Option FreePlace) → file_index V h 0 ≡ leaf → V.block leaf ≡ v → IsLevelPlace V v tag o → IsPlaceOf V h tag o
    by V None is at k = tt
    by V (Some p) is at k = record {
      block_for = in_level k.level k.low k.is.which;
      is = subst (λ b. HasPlaceIn V b p) (number-is V h tag k.level leaf v k.low is some at ∙ ap (block_of V h) (sym k.is.which)) k.is;
    }

pub place-here : (old new : View → Type 0) (h : Head) (tag : ℕ) (o : Option FreePlace) (p : FreePlace) → Learns old new (λ V. IsPlaceOf V h tag o) → o ≡ Some p → Learns old new (λ V. IsPlaceFor V h tag (Some (Here p)))
place-here old new h tag o p l is = learns-as old new _ _ l (λ V m at. subst (IsPlaceOf V h tag) is at)

-- ── a further block ──

-- the first of all
pub further-first : (may : View → Type 0) (h : Head) (tag b : ℕ) → b ≡ get_or h.blocks 0 0 → b ≡ 0 → Learns may may (λ V. IsFurtherBlock V h tag (Some 0))
further-first may h tag b is none = record {
  before = λ V m. m;
  now = λ V m. record { few = omega arith; block_for = any_name (omega arith); none = directory-first V (held_of h []) 0 (omega arith) ∙ sym is ∙ none };
}

-- a level of which the directory has no block
further-level : (V : View) (h : Head) (tag level : ℕ) → level < 4 → number_in V (file_index V h 0) (level_block tag level - 48) ≡ 0 → IsFurther V h tag (level_block tag level)
further-level V h tag level low none = record { few = level-low tag level low; block_for = in_level level low refl; none = level-is V h tag level low ∙ none }

pub further-none : (old new : View → Type 0) (h : Head) (tag leaf j : ℕ) → Learns old new (λ V. file_index V h 0 ≡ leaf) → leaf ≡ 0 → j ≡ level_block tag 0 → Learns old new (λ V. IsFurtherBlock V h tag (Some j))
further-none old new h tag leaf j index none is = learns-as old new _ _ index (λ V m leaf_is. subst (λ j. IsFurther V h tag j) (sym is) (further-level V h tag 0 (omega arith) (
    ap (λ t. cond t 0 (word_at (V.block (file_index V h 0)) (4 * (level_block tag 0 - 48)))) (eq-eqb (file_index V h 0) 0 (leaf_is ∙ none)))))

pub further-hole : (first old new : View → Type 0) (h : Head) (tag leaf : ℕ) (v w : List ℕ) (o : Option ℕ) → Learns first old (λ V. file_index V h 0 ≡ leaf) → leaf ≢ 0 → w ≡ v → Learns old new (λ V. V.block leaf ≡ v) → IsHoleIn w tag o
    → Learns first new (λ V. IsFurtherBlock V h tag o)
further-hole first old new h tag leaf v w o index some same block hole = learns-then first old new _ _ index block _ (λ V m is at. by V o is at (subst (λ v. IsHoleIn v tag o) same hole))
  where
    by : (V : View) (o : Option ℕ) → file_index V h 0 ≡ leaf → V.block leaf ≡ v → IsHoleIn v tag o → IsFurtherBlock V h tag o
    by V None is at k = tt
    by V (Some j) is at k = subst (λ j. IsFurther V h tag j) (sym k.is) (further-level V h tag k.level k.low (
        ap (λ b. number_in V b (level_block tag k.level - 48)) is
        ∙ ap (λ t. cond t 0 (word_at (V.block leaf) (4 * (level_block tag k.level - 48)))) (ne_eqb leaf 0 some)
        ∙ ap (λ v. number_at v (level_block tag k.level - 48)) at
        ∙ ap (λ j. number_at v (j - 48)) (sym k.is)
        ∙ k.none))

pub hole-low : (v : List ℕ) (tag : ℕ) (o : Option ℕ) → IsHoleIn v tag o → IsLowBlock o
hole-low v tag None k = tt
hole-low v tag (Some j) k = let few = level-low tag k.level k.low in let is = k.is in omega (arith, few, is)

-- the blocks that are taken for it
pub growth-taken : (first old new : View → Type 0) (h : Head) (j : ℕ) (r : Reach) (s : Numbers) (o : Option Numbers) (t : Numbers) → r ≡ reach_for (4096 * j) (4096 * (j + 1)) → AreSized r s → IsSizedTaken r o
    → Learns first old (λ V. HasNumbers V h r s) → Learns old new (λ V. IsTaken V r s o) → o ≡ Some t → Learns first new (λ V. IsGrowthAt V h j (Some (record { j = j; change = record { reach = r; old = s; new = t } })))
growth-taken first old new h j r s o t reach old_sized new_sized had taken is = learns-then first old new _ _ had taken _ (λ V m has k. record {
  is = refl;
  change = record { reach = reach; had = has; old_sized = old_sized; new_sized = subst (IsSizedTaken r) is new_sized; taken = subst (IsTaken V r s) is k };
})

pub growth-fits : (j : ℕ) (r : Reach) (s : Numbers) (o : Option Numbers) (t : Numbers) → j < 388 → r ≡ reach_for (4096 * j) (4096 * (j + 1)) → IsReach r → AreSized r s → IsSizedTaken r o → o ≡ Some t
    → IsFitGrowthAt (Some (record { j = j; change = record { reach = r; old = s; new = t } }))
growth-fits j r s o t few reach fits old_sized new_sized is = record { few = few; reach = reach; fits = fits; old_sized = old_sized; new_sized = subst (IsSizedTaken r) is new_sized }

pub place-further : (first old new : View → Type 0) (h : Head) (tag : ℕ) (o : Option ℕ) (j : ℕ) (p : Option Growth) (g : Growth) → Learns first old (λ V. IsFurtherBlock V h tag o) → o ≡ Some j → Learns old new (λ V. IsGrowthAt V h j p) → p ≡ Some g
    → Learns first new (λ V. IsPlaceFor V h tag (Some (Further g)))
place-further first old new h tag o j p g l is k there = learns-then first old new _ _ l k _ (λ V m further at. by V (subst (IsFurtherBlock V h tag) is further) (subst (IsGrowthAt V h j) there at))
  where
    by : (V : View) → IsFurther V h tag j → HasGrowthAt V h j g → HasGrowth V h tag g
    by V further at = record {
      block = subst (λ j. IsFurther V h tag j) (sym at.is) further;
      change = subst (λ j. IsChanging V h (4096 * j) (4096 * (j + 1)) g.change) (sym at.is) at.change;
    }

-- ── room ──

pub room-some : (first old new : View → Type 0) (h : Head) (tag : ℕ) (o : Option FreeNumber) (f : FreeNumber) (p : Option NewPlace) (room : Option FreeRoom) → Learns first old (λ V. IsFreeNumber V o) → o ≡ Some f
    → Learns old new (λ V. IsPlaceFor V h tag p) → room ≡ room_of f p → Learns first new (λ V. IsRoomFor V h tag room)
room-some first old new h tag o f p room l is k room_is = learns-then first old new _ _ l k _ (λ V m number place. subst (IsRoomFor V h tag) (sym room_is) (by V (subst (IsFreeNumber V) is number) p place))
  where
    by : (V : View) → HasFreeNumber V f → (p : Option NewPlace) → IsPlaceFor V h tag p → IsRoomFor V h tag (room_of f p)
    by V number None place = tt
    by V number (Some p) place = record { number = number; place = place }

pub room-fits : (o : Option FreeNumber) (f : FreeNumber) (p : Option NewPlace) (room : Option FreeRoom) → IsYoung o → o ≡ Some f → IsFitPlace p → room ≡ room_of f p → IsFitRoom room
room-fits o f p room young is fits room_is = subst IsFitRoom (sym room_is) (by p fits)
  where
    by : (p : Option NewPlace) → IsFitPlace p → IsFitRoom (room_of f p)
    by None fits = tt
    by (Some p) fits = (subst IsYoung is young, fits)
