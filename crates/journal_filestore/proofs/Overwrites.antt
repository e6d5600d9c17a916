-- What a map gives the objects of a disk once some of them are overwritten.
use Rattle.std.proofs.Common.{ℕ, ◌≡◌, ◌≢◌, ◌+◌, ◌*◌, ◌/◌, ◌%◌, Bool, true, false, cond, ◌==◌, ◌&&◌, List, [], ◌∷◌, ◌++◌, Option, Some, None, refl, sym, ap, ◌∙◌, arith}
use Rattle.std.specs.Prelude.{unwrap_or}
use Rattle.std.proofs.lemmas.Bool.{ne_eqb, and_left}
use Rattle.std.proofs.lemmas.Bool.Decides.{nat_tests}
use Rattle.journal_world.specs.declared.address.Addr.{Addr}
use Rattle.journal_world.specs.Addresses.{Value, kind_of, is_same}
use Rattle.journal_world.specs.Maps.{Map, Pair, SamePairs, value_among, zeros_at, overwritten}
use Rattle.journal_world.proofs.SameMaps.{value_at-overwritten}
use Rattle.journal_inode.specs.Places.{Object, addr_of, IsOnDisk, is_same_object, object}
use Rattle.journal_inode.specs.Places.Object.{superblock, bit, inode, block}
use Rattle.journal_filestore.specs.Doing.{Write}

abbrev pub or_else : {A : Type 0} → Option A → Option A → Option A
or_else None p = p
or_else (Some x) p = Some x

-- the value that the first write of an object gives it
abbrev pub written_to : List Write → Object → Option Value
written_to [] o = None
written_to (w ∷ ws) o = cond (is_same_object o w.0) (Some w.1) (written_to ws o)

-- the writes by address
abbrev pub pairs_of : List Write → List Pair
pairs_of [] = []
pairs_of (w ∷ ws) = (addr_of w.0, w.1) ∷ pairs_of ws

abbrev pub AreOnDisk : ℕ → List Write → Type 0
AreOnDisk blocks [] = Unit {0}
AreOnDisk blocks (w ∷ ws) = IsOnDisk blocks w.0 × AreOnDisk blocks ws

same_inodes : (i j : ℕ) → ((515 + i / 32 == 515 + j / 32) && (i % 32 * 1024 == j % 32 * 1024)) ≡ (i == j)
same_inodes i j = grind (arith, nat_tests)

-- an inode lies in no other block
pub apart_blocks : (a b : ℕ) (t : Bool) → a ≢ b → ((a == b) && t) ≡ false
apart_blocks a b t ne = and_left (a == b) t (ne_eqb a b ne)

and-true : (t : Bool) → (t && true) ≡ t
and-true true = refl
and-true false = refl

-- two objects have one address where they are one
pub same_addr_of : (blocks : ℕ) (o p : Object) → IsOnDisk blocks o → IsOnDisk blocks p → is_same (addr_of o) (addr_of p) ≡ is_same_object o p
same_addr_of blocks superblock superblock x y = refl
same_addr_of blocks superblock (bit j) x y = refl
same_addr_of blocks superblock (inode j) x y = apart_blocks 513 (515 + j / 32) _ (omega arith)
same_addr_of blocks superblock (block b) x y = apart_blocks 513 b _ (omega arith)
same_addr_of blocks (bit i) superblock x y = refl
same_addr_of blocks (bit i) (bit j) x y = refl
same_addr_of blocks (bit i) (inode j) x y = apart_blocks 514 (515 + j / 32) _ (omega arith)
same_addr_of blocks (bit i) (block b) x y = apart_blocks 514 b _ (omega arith)
same_addr_of blocks (inode i) superblock x y = apart_blocks (515 + i / 32) 513 _ (omega arith)
same_addr_of blocks (inode i) (bit j) x y = apart_blocks (515 + i / 32) 514 _ (omega arith)
same_addr_of blocks (inode i) (inode j) x y = same_inodes i j
same_addr_of blocks (inode i) (block b) x y = apart_blocks (515 + i / 32) b _ (omega arith)
same_addr_of blocks (block b) superblock x y = apart_blocks b 513 _ (omega arith)
same_addr_of blocks (block b) (bit j) x y = apart_blocks b 514 _ (omega arith)
same_addr_of blocks (block b) (inode j) x y = apart_blocks b (515 + j / 32) _ (omega arith)
same_addr_of blocks (block a) (block b) x y = and-true (a == b)

unwrap_or-cond : {A : Type 0} (b : Bool) (x z : A) (o : Option A) → unwrap_or (cond b (Some x) o) z ≡ cond b x (unwrap_or o z)
unwrap_or-cond true x z o = refl
unwrap_or-cond false x z o = refl

-- a test of the first write decides
pub first_is : (t : Bool) (x z : Value) (o : Option Value) → t ≡ true → unwrap_or (cond t (Some x) o) z ≡ x
first_is t x z o is = ap (λ b. unwrap_or (cond b (Some x) o) z) is

pub first_is_not : (t : Bool) (x z : Value) (o : Option Value) → t ≡ false → unwrap_or (cond t (Some x) o) z ≡ unwrap_or o z
first_is_not t x z o is = ap (λ b. unwrap_or (cond b (Some x) o) z) is

-- what a map gives an object once some are overwritten
pub object-overwritten : (m : Map) (ws : List Write) (o : Object) → AreOnDisk m.layout.blocks ws → IsOnDisk m.layout.blocks o
    → object (overwritten m (pairs_of ws)) o ≡ unwrap_or (written_to ws o) (object m o)
object-overwritten m [] o are here = refl
object-overwritten m (w ∷ ws) o are here =
    value_at-overwritten m (addr_of w.0, w.1) (pairs_of ws) (addr_of o)
    ∙ ap (λ b. cond b w.1 (object (overwritten m (pairs_of ws)) o)) (same_addr_of m.layout.blocks o w.0 here are.0)
    ∙ ap (cond (is_same_object o w.0) w.1) (object-overwritten m ws o are.1 here)
    ∙ sym (unwrap_or-cond (is_same_object o w.0) w.1 (object m o) (written_to ws o))

-- the objects of n are those of m, overwritten by the writes, the first of an object before others
pub record Overwrites (m n : Map) (ws : List Write) : Type 0 where
  pub layout : n.layout ≡ m.layout
  pub objects : (o : Object) → IsOnDisk m.layout.blocks o → object n o ≡ unwrap_or (written_to ws o) (object m o)

-- a map is overwritten by pairs that give what these writes give
pub Overwrites-pairs : (m : Map) (ps : List Pair) (ws : List Write) → AreOnDisk m.layout.blocks ws → SamePairs ps (pairs_of ws) → Overwrites m (overwritten m ps) ws
Overwrites-pairs m ps ws are same = record {
  layout = refl;
  objects = λ o here.
      ap (λ v. unwrap_or v (zeros_at (kind_of m.layout (addr_of o).block))) (among-append ps (pairs_of ws) m.pairs (addr_of o) (same (addr_of o)))
      ∙ object-overwritten m ws o are here;
}
  where
    among-first : (ps qs : List Pair) (a : Addr) → value_among (ps ++ qs) a ≡ or_else (value_among ps a) (value_among qs a)
    among-first [] qs a = refl
    among-first (p ∷ ps) qs a = by_test (is_same a p.0) (among-first ps qs a)
      where
        by_test : (b : Bool) → value_among (ps ++ qs) a ≡ or_else (value_among ps a) (value_among qs a)
            → cond b (Some p.1) (value_among (ps ++ qs) a) ≡ or_else (cond b (Some p.1) (value_among ps a)) (value_among qs a)
        by_test true rest = refl
        by_test false rest = rest

    among-append : (ps qs rs : List Pair) (a : Addr) → value_among ps a ≡ value_among qs a → value_among (ps ++ rs) a ≡ value_among (qs ++ rs) a
    among-append ps qs rs a same = among-first ps rs a ∙ ap (λ v. or_else v (value_among rs a)) same ∙ sym (among-first qs rs a)
