-- The blocks of an inode are read, through its index blocks.
use Rattle.std.proofs.Common.{◌≡◌, ◌≢◌, ℕ, ◌+◌, ◌-◌, ◌*◌, ◌/◌, ◌%◌, ◌<◌, ◌≤◌, cond, List, [], get_or, sym, ap, inl, inr, ◌∙◌, arith}
use Rattle.std.proofs.lemmas.Bool.{ne_eqb}
use Rattle.journal_treestore.specs.declared.inode.Head.{Head}
use Rattle.journal_treestore.specs.Bytes.{word_at}
use Rattle.journal_treestore.specs.Views.{View, held_of, number_in, block_at}
use Rattle.journal_treestore.proofs.Indexing.{at-direct, at-content, at-index, at-leaf, at-none, same-named}
use Rattle.journal_treecalls.specs.Disks.{Learns}
use Rattle.journal_treecalls.specs.Fetches.{file_blocks, file_index, number_at}
use Rattle.journal_treecalls.proofs.Learning.{learns-as, learns-then}

-- the name of an inode says nothing of its blocks
pub file-named : (V : View) (h : Head) (name : List ℕ) (p : ℕ) → block_at V (held_of h name) p ≡ file_blocks V h p
file-named V h name p = same-named V h name [] p

pub number-none : (may : View → Type 0) (b k : ℕ) → b ≡ 0 → Learns may may (λ V. number_in V b k ≡ 0)
number-none may b k none = record { before = λ V m. m; now = λ V m. ap (λ b. number_in V b k) none }

pub number-some : (old new : View → Type 0) (b k number : ℕ) (v w : List ℕ) → Learns old new (λ V. V.block b ≡ v) → w ≡ v → b ≢ 0 → number ≡ number_at w k → Learns old new (λ V. number_in V b k ≡ number)
number-some old new b k number v w l same some is = learns-as old new _ _ l (λ V m block.
    ap (λ t. cond t 0 (word_at (V.block b) (4 * k))) (ne_eqb b 0 some)
    ∙ ap (λ v. word_at v (4 * k)) (block ∙ sym same)
    ∙ sym is)

-- a number of an index block that was looked up
pub number-indexed : (first old new : View → Type 0) (h : Head) (i k leaf number : ℕ) → Learns first old (λ V. file_index V h i ≡ leaf) → Learns old new (λ V. number_in V leaf k ≡ number)
    → Learns first new (λ V. number_in V (file_index V h i) k ≡ number)
number-indexed first old new h i k leaf number l m = learns-then first old new _ _ l m _ (λ V _ is has. ap (λ b. number_in V b k) is ∙ has)

-- ── by the place ──

pub place-direct : (may : View → Type 0) (h : Head) (p at : ℕ) → at ≡ p → at < 48 → Learns may may (λ V. file_blocks V h p ≡ get_or h.blocks at 0)
place-direct may h p at same low = record {
  before = λ V m. m;
  now = λ V m. at-direct V (held_of h []) p (omega (arith, same, low)) ∙ ap (λ j. get_or h.blocks j 0) (sym same);
}

pub place-content : (old new : View → Type 0) (h : Head) (p at number : ℕ) → at ≡ p → 48 ≤ at → p < 1048624
    → Learns old new (λ V. number_in V (file_index V h ((at - 48) / 1024)) ((at - 48) % 1024) ≡ number) → Learns old new (λ V. file_blocks V h p ≡ number)
place-content old new h p at number same past low l = learns-as old new _ _ l (λ V m is.
    at-content V (held_of h []) p (omega (arith, same, past)) low
    ∙ ap (λ a. number_in V (file_index V h ((a - 48) / 1024)) ((a - 48) % 1024)) (sym same)
    ∙ is)

pub place-index : (may : View → Type 0) (h : Head) (p : ℕ) → p ≡ 2147483648 → Learns may may (λ V. file_blocks V h p ≡ h.index)
place-index may h p is = record { before = λ V m. m; now = λ V m. ap (file_blocks V h) is ∙ at-index V (held_of h []) }

pub place-leaf : (old new : View → Type 0) (h : Head) (p i block : ℕ) → 2147483649 ≤ p → i ≡ p - 2147483649 → i < 1024 → Learns old new (λ V. file_index V h i ≡ block) → Learns old new (λ V. file_blocks V h p ≡ block)
place-leaf old new h p i block high i_is low l = learns-as old new _ _ l (λ V m is.
    ap (file_blocks V h) (let e : p ≡ 2147483649 + i = omega (arith, high, i_is) in e)
    ∙ at-leaf V (held_of h []) i low
    ∙ is)

pub place-between : (may : View → Type 0) (h : Head) (p : ℕ) → 1048624 ≤ p → p ≢ 2147483648 → p < 2147483649 → Learns may may (λ V. file_blocks V h p ≡ 0)
place-between may h p past other low = record { before = λ V m. m; now = λ V m. at-none V (held_of h []) p past other (inl low) }

pub place-far : (may : View → Type 0) (h : Head) (p i : ℕ) → 2147483649 ≤ p → i ≡ p - 2147483649 → 1024 ≤ i → Learns may may (λ V. file_blocks V h p ≡ 0)
place-far may h p i high i_is far = record {
  before = λ V m. m;
  now = λ V m. at-none V (held_of h []) p (omega (arith, high)) (λ e. absurd (omega (arith, e, high))) (inr (omega (arith, high, i_is, far)));
}
