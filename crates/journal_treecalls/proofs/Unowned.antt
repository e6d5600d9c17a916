-- A block that nobody has.
use Rattle.std.proofs.Common.{◌≡◌, ◌≢◌, ℕ, ◌-◌, ◌<◌, ◌≤◌, Bool, true, false, Option, refl, sym, ap, subst, ◌∙◌, arith}
use Rattle.std.specs.Prelude.{◌==◌}
use Rattle.std.proofs.lemmas.Bool.{eq-eqb, false≢true}
use Rattle.journal_tree.proofs.Hanging.{low}
use Rattle.journal_treestore.specs.declared.inode.Head.{Head}
use Rattle.journal_treestore.specs.declared.inode.Inode.{Inode}
use Rattle.journal_treestore.specs.declared.inode.Inode.TheVariants.{Free, Used}
use Rattle.journal_treestore.specs.declared.owner.Owner.{Owner}
use Rattle.journal_treestore.specs.Views.{Held, View, held_of, seen, block_at, node_of, tree_of}
use Rattle.journal_treestore.specs.Views.Seen.{used}
use Rattle.journal_treestore.proofs.Viewing.{inode-node}
use Rattle.journal_treecalls.specs.Disks.{Learns}
use Rattle.journal_treecalls.specs.Targets.{IsInode}
use Rattle.journal_treecalls.specs.Fetches.{file_blocks}
use Rattle.journal_treecalls.specs.Blocks.{HasFreeBlock, IsFreeBlock, IsThis, if_nobodys, IsHad}
use Rattle.journal_treecalls.proofs.Learning.{learns-as, learns-then}
use Rattle.journal_treecalls.proofs.Learned.{AreSound}
use Rattle.journal_treecalls.proofs.Numbers.{file-named}

pub had-high : (old : View → Type 0) → AreSound old → (b : ℕ) (o : Owner) (count number : ℕ) → ((V : View) → old V → V.numbers ≡ count) → number ≡ o.number → count ≤ number → Learns old old (λ V. IsHad V b o false)
had-high old sound b o count number counts is high = record {
  before = λ V m. m;
  now = λ V m some h at. let l = low (tree_of V) o.number (node_of V h) (sound V m).tree (inode-node V o.number h at) in let c = counts V m in absurd (omega (arith, l, c, is, high));
}

pub had-free : (old new : View → Type 0) (b generation : ℕ) (o : Owner) (x : Inode) → Learns old new (λ V. IsInode V o.number x) → x ≡ Free generation → Learns old new (λ V. IsHad V b o false)
had-free old new b generation o x l is = learns-as old new _ _ l (λ V m at some h here. absurd (cc (sym (at.1 ∙ ap (λ x. seen x at.0) is) ∙ here)))

pub had-used : (first old new : View → Type 0) (b : ℕ) (o : Owner) (x : Inode) (head : Head) (has : ℕ) → Learns first old (λ V. IsInode V o.number x) → x ≡ Used head → Learns old new (λ V. file_blocks V head o.place ≡ has)
    → Learns first new (λ V. IsHad V b o (has == b))
had-used first old new b o x head has l is k = learns-then first old new _ _ l k _ (λ V m at has_is. by V at has_is (has == b) refl)
  where
    not-had : (V : View) → IsInode V o.number x → file_blocks V head o.place ≡ has → (has == b) ≡ false → b ≢ 0 → (h : Held) → V.inode o.number ≡ used h → block_at V h o.place ≢ b
    not-had V at has_is t some h here it = absurd (false≢true (sym t ∙ eq-eqb has b (sym has_is ∙ sym (file-named V head at.0 o.place) ∙ ap (λ (h : Held). block_at V h o.place) same ∙ it)))
      where
        same : held_of head at.0 ≡ h
        same = let e : used (held_of head at.0) ≡ used h = sym (at.1 ∙ ap (λ x. seen x at.0) is) ∙ here in cc

    by : (V : View) → IsInode V o.number x → file_blocks V head o.place ≡ has → (t : Bool) → (has == b) ≡ t → IsHad V b o t
    by V at has_is true t = tt
    by V at has_is false t = not-had V at has_is t

pub block-free : (old new : View → Type 0) (b begin count index : ℕ) (owner : Owner) (had : Bool) (o : Option ℕ) → Learns old new (λ V. (V.owner b ≡ owner) × IsHad V b owner had) → AreSound new
    → ((V : View) → old V → V.first_data ≡ begin) → ((V : View) → old V → V.data_blocks ≡ count) → index ≡ b → begin ≤ index → index - begin < count → o ≡ if_nobodys b had → Learns old new (λ V. IsFreeBlock V o)
block-free old new b begin count index owner had o l sound begins counts is from to o_is = learns-as old new _ _ l (λ V m k. subst (IsFreeBlock V) (sym o_is) (by V m had k))
  where
    free : (V : View) → new V → (V.owner b ≡ owner) × IsHad V b owner false → HasFreeBlock V b
    free V m k = record {
      from = (let x = begins V (l.before V m) in omega (arith, x, is, from));
      to = (let x = begins V (l.before V m) in let y = counts V (l.before V m) in omega (arith, x, y, is, from, to));
      unowned = record { not_at = λ h at. subst (λ (o : Owner). block_at V h o.place ≢ b) (sym k.0) (k.1 some h (ap (λ (o : Owner). V.inode o.number) (sym k.0) ∙ at)) };
    }
      where
        some : b ≢ 0
        some e = let x = begins V (l.before V m) in let n = (sound V m).no_data in absurd (omega (arith, e, x, n, is, from))

    by : (V : View) → new V → (had : Bool) → (V.owner b ≡ owner) × IsHad V b owner had → IsFreeBlock V (if_nobodys b had)
    by V m true k = tt
    by V m false k = free V m k

pub this-block : (b : ℕ) (had : Bool) (o : Option ℕ) → o ≡ if_nobodys b had → IsThis b o
this-block b had o is = subst (IsThis b) (sym is) (by had)
  where
    by : (had : Bool) → IsThis b (if_nobodys b had)
    by true = tt
    by false = refl
