-- What a file holds, byte by byte.
use Rattle.std.proofs.Common.{◌≡◌, ◌≢◌, ℕ, zero, suc, ◌+◌, ◌-◌, ◌*◌, ◌/◌, ◌%◌, ◌<◌, ◌≤◌, cond, ◌++◌, length, get_or, ap, ◌⊎◌, inl, inr, ◌∙◌, arith}
use Rattle.std.proofs.lemmas.Bool.{cases_lt, ne_eqb}
use Rattle.std.proofs.lemmas.List.{get_or_append_left, get_or-append-add, get_or-take, get_or-replicate}
use Rattle.journal_treestore.specs.Views.{Held, View, zero_block, block_at, bytes_in, bytes_of, content}
use Rattle.journal_treestore.specs.Sound.{IsSoundInode}
use Rattle.journal_treestore.proofs.Recording.{zero_block-is}
use Rattle.journal_treecalls.proofs.Cases.{length-bytes_of}

-- the byte at a place of what the blocks of an inode hold
abbrev pub byte_at : View → Held → ℕ → ℕ
byte_at V x i = get_or (bytes_in V (block_at V x (i / 4096))) (i % 4096) 0

pub zero-at : (i : ℕ) → i < 4096 → get_or zero_block i 0 ≡ 0
zero-at i low = ap (λ v. get_or v i 0) zero_block-is ∙ get_or-replicate {A = ℕ} 4096 i 0 0 low

-- the byte at a place of a block that is there, and of none
pub in-some : (U : View) (x m : ℕ) → x ≢ 0 → get_or (bytes_in U x) m 0 ≡ get_or (U.block x) m 0
in-some U x m there = ap (λ t. get_or (cond t zero_block (U.block x)) m 0) (ne_eqb x 0 there)

pub in-none : (U : View) (x m : ℕ) → x ≡ 0 → m < 4096 → get_or (bytes_in U x) m 0 ≡ 0
in-none U x m none low = ap (λ x. get_or (bytes_in U x) m 0) none ∙ zero-at m low

module _ (V : View) (n : ℕ) (x : Held) (s : IsSoundInode V n x) where
  pub get-bytes : (k i : ℕ) → i < 4096 * k → get_or (bytes_of V (block_at V x) k) i 0 ≡ byte_at V x i
  get-bytes zero i low = absurd (omega (arith, low))
  get-bytes (suc k) i low = by (cases_lt i (4096 * k)) (get-bytes k i)
    where
      front : length (bytes_of V (block_at V x) k) ≡ 4096 * k
      front = length-bytes_of V n x s k

      last : 4096 * k ≤ i → get_or (bytes_of V (block_at V x) k ++ bytes_in V (block_at V x k)) i 0 ≡ byte_at V x i
      last past =
          ap (λ i. get_or (bytes_of V (block_at V x) k ++ bytes_in V (block_at V x k)) i 0) split
          ∙ get_or-append-add (bytes_of V (block_at V x) k) (bytes_in V (block_at V x k)) (i - 4096 * k) 0
          ∙ (λ z. get_or (bytes_in V (block_at V x (block z))) (rest z) 0)
        where
          split : i ≡ length (bytes_of V (block_at V x) k) + (i - 4096 * k)
          split = let f = front in omega (arith, f, past)

          block : k ≡ i / 4096
          block = omega (arith, past, low)

          rest : i - 4096 * k ≡ i % 4096
          rest = omega (arith, past, low)

      by : (i < 4096 * k) ⊎ (4096 * k ≤ i) → (i < 4096 * k → get_or (bytes_of V (block_at V x) k) i 0 ≡ byte_at V x i) → get_or (bytes_of V (block_at V x) k ++ bytes_in V (block_at V x k)) i 0 ≡ byte_at V x i
      by (inl l) before = get_or_append_left (bytes_of V (block_at V x) k) (bytes_in V (block_at V x k)) 0 i (let f = front in omega (arith, f, l)) ∙ before l
      by (inr past) before = last past

  pub content-at : (i : ℕ) → i < x.size → get_or (content V x) i 0 ≡ byte_at V x i
  content-at i low =
      get_or-take x.size (bytes_of V (block_at V x) ((x.size + 4095) / 4096)) i 0 low
      ∙ get-bytes ((x.size + 4095) / 4096) i (omega (arith, low))
