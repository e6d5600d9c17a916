-- The blocks to clear before a file has another size are found.
use Rattle.std.proofs.Common.{◌≡◌, ◌≢◌, ℕ, ◌-◌, ◌*◌, ◌/◌, ◌%◌, ◌<◌, ◌≤◌, cond, sym, ap, ◌∙◌}
use Rattle.std.specs.Prelude.{nat_eq, nat_lt}
use Rattle.std.proofs.lemmas.Bool.{eq-eqb, ne_eqb, lt-ltb, le-ltb, le-leb, lt-leb}
use Rattle.journal_treestore.specs.declared.inode.Head.{Head}
use Rattle.journal_treestore.specs.Views.{View}
use Rattle.journal_treecalls.specs.declared.setting.Tails.{Tails}
use Rattle.journal_treecalls.specs.declared.setting.Tails.TheVariants.{NoTail}
use Rattle.journal_treecalls.specs.Disks.{Learns}
use Rattle.journal_treecalls.specs.Fetches.{file_blocks, file_index, last_leaf}
use Rattle.journal_treecalls.specs.Sizes.{if_some, grown_tails, with_leaf, last_numbers, kept_tails, cut_tails, tails_of}
use Rattle.journal_treecalls.proofs.Learning.{learns-as}

-- ── by the sizes ──

pub tails-grow : (old new : View → Type 0) (h : Head) (size : ℕ) (t : Tails) → h.size < size → Learns old new (λ V. grown_tails V h ≡ t) → Learns old new (λ V. tails_of V h size ≡ t)
tails-grow old new h size t grows l = learns-as old new _ _ l (λ V m is. ap (λ a. cond a (grown_tails V h) (cond (nat_lt size h.size) (cut_tails V h size) NoTail)) (lt-ltb h.size size grows) ∙ is)

pub tails-cut : (old new : View → Type 0) (h : Head) (size : ℕ) (t : Tails) → size ≤ h.size → size < h.size → Learns old new (λ V. cut_tails V h size ≡ t) → Learns old new (λ V. tails_of V h size ≡ t)
tails-cut old new h size t most smaller l = learns-as old new _ _ l (λ V m is.
    ap (λ a. cond a (grown_tails V h) (cond (nat_lt size h.size) (cut_tails V h size) NoTail)) (le-ltb h.size size most)
    ∙ ap (λ b. cond b (cut_tails V h size) NoTail) (lt-ltb size h.size smaller)
    ∙ is)

pub tails-same : (may : View → Type 0) (h : Head) (size : ℕ) → size ≤ h.size → h.size ≤ size → Learns may may (λ V. tails_of V h size ≡ NoTail)
tails-same may h size most least = record {
  before = λ V m. m;
  now = λ V m.
      ap (λ a. cond a (grown_tails V h) (cond (nat_lt size h.size) (cut_tails V h size) NoTail)) (le-ltb h.size size most)
      ∙ ap (λ b. cond b (cut_tails V h size) NoTail) (le-ltb size h.size least);
}

-- ── where it grows ──

pub grown-far : (may : View → Type 0) (h : Head) → 1048624 ≤ h.size / 4096 → Learns may may (λ V. grown_tails V h ≡ NoTail)
grown-far may h far = record { before = λ V m. m; now = λ V m. ap (λ a. cond a NoTail (if_some (file_blocks V h (h.size / 4096)) (h.size % 4096))) (le-leb 1048624 (h.size / 4096) far) }

pub grown-last : (old new : View → Type 0) (h : Head) (block : ℕ) (t : Tails) → h.size / 4096 < 1048624 → Learns old new (λ V. file_blocks V h (h.size / 4096) ≡ block) → t ≡ if_some block (h.size % 4096) → Learns old new (λ V. grown_tails V h ≡ t)
grown-last old new h block t low l is = learns-as old new _ _ l (λ V m at.
    ap (λ a. cond a NoTail (if_some (file_blocks V h (h.size / 4096)) (h.size % 4096))) (lt-leb 1048624 (h.size / 4096) low)
    ∙ ap (λ b. if_some b (h.size % 4096)) at
    ∙ sym is)

-- ── where it gets smaller ──

pub cut-none : (may : View → Type 0) (h : Head) (size : ℕ) → h.index ≡ 0 → Learns may may (λ V. cut_tails V h size ≡ NoTail)
cut-none may h size none = record { before = λ V m. m; now = λ V m. ap (λ a. cond a NoTail (cond (nat_eq (last_leaf size) 0) NoTail (kept_tails V h (last_leaf size) size))) (eq-eqb h.index 0 none) }

pub cut-direct : (may : View → Type 0) (h : Head) (size leaves : ℕ) → h.index ≢ 0 → leaves ≡ last_leaf size → leaves ≡ 0 → Learns may may (λ V. cut_tails V h size ≡ NoTail)
cut-direct may h size leaves some are none = record {
  before = λ V m. m;
  now = λ V m.
      ap (λ a. cond a NoTail (cond (nat_eq (last_leaf size) 0) NoTail (kept_tails V h (last_leaf size) size))) (ne_eqb h.index 0 some)
      ∙ ap (λ b. cond b NoTail (kept_tails V h (last_leaf size) size)) (eq-eqb (last_leaf size) 0 (sym are ∙ none));
}

pub cut-kept : (old new : View → Type 0) (h : Head) (size leaves : ℕ) (t : Tails) → h.index ≢ 0 → leaves ≡ last_leaf size → leaves ≢ 0 → Learns old new (λ V. kept_tails V h leaves size ≡ t) → Learns old new (λ V. cut_tails V h size ≡ t)
cut-kept old new h size leaves t some are high l = learns-as old new _ _ l (λ V m is.
    ap (λ a. cond a NoTail (cond (nat_eq (last_leaf size) 0) NoTail (kept_tails V h (last_leaf size) size))) (ne_eqb h.index 0 some)
    ∙ ap (λ b. cond b NoTail (kept_tails V h (last_leaf size) size)) (ne_eqb (last_leaf size) 0 (λ z. high (are ∙ z)))
    ∙ ap (λ leaves. kept_tails V h leaves size) (sym are)
    ∙ is)

pub kept-leaf : (old new : View → Type 0) (h : Head) (leaves size leaf numbers : ℕ) (t : Tails) → Learns old new (λ V. file_index V h (leaves - 1) ≡ leaf) → numbers ≡ last_numbers leaves size
    → t ≡ with_leaf (record { block = h.index; from = 4 * leaves }) leaf (4 * numbers) → Learns old new (λ V. kept_tails V h leaves size ≡ t)
kept-leaf old new h leaves size leaf numbers t l are is = learns-as old new _ _ l (λ V m at.
    ap (λ b. with_leaf (record { block = h.index; from = 4 * leaves }) b (4 * last_numbers leaves size)) at
    ∙ ap (λ n. with_leaf (record { block = h.index; from = 4 * leaves }) leaf (4 * n)) (sym are)
    ∙ sym is)
