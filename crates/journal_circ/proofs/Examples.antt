-- What an image stands for, on images made by hand.
use Rattle.std.proofs.Common.{◌≡◌, ◌<◌, ◌≤◌, ℕ, zero, suc, List, [], ◌∷◌, ◌++◌, refl, sym, arith, subst, lit<, lit≤}
use Rattle.std.specs.Prelude.{replicate}
use Rattle.journal_block.specs.Block.{Bytes, u64_at, with_bytes}
use Rattle.journal_block.specs.Updates.{with_updates}
use Rattle.journal_disk.specs.Disks.{block_at}
use Rattle.journal_circ.specs.Log.{log_block, address_at, address, home_by, log_in, end_in, start_in}
use Rattle.journal_circ.specs.StandsFor.{StandsFor}

-- where positions lie
places : (log_block 0 ≡ 2) × (log_block 510 ≡ 512) × (log_block 511 ≡ 2) × (address_at 0 ≡ 8) × (address_at 510 ≡ 4088) × (address_at 511 ≡ 8)
places = (refl, refl, refl, refl, refl, refl)

-- 514 blocks with a log from 0 to 2, whose updates are both of block 513
abbrev header : Bytes
header = 2 ∷ 0 ∷ 0 ∷ 0 ∷ 0 ∷ 0 ∷ 0 ∷ 0 ∷ 1 ∷ 2 ∷ 0 ∷ 0 ∷ 0 ∷ 0 ∷ 0 ∷ 0 ∷ 1 ∷ 2 ∷ 0 ∷ 0 ∷ 0 ∷ 0 ∷ 0 ∷ 0 ∷ []

abbrev image : List Bytes
image = header ∷ [] ∷ (7 ∷ []) ∷ (8 ∷ []) ∷ replicate 509 [] ++ (9 ∷ []) ∷ []

numbers : (start_in image ≡ 0) × (end_in image ≡ 2) × (address header 0 ≡ 513) × (address header 1 ≡ 513)
unfolding u64_at
numbers = (refl, refl, refl, refl)

-- the last update counts
last : StandsFor 514 (λ b. 8 ∷ []) image
unfolding u64_at
last = record {
  size = refl;
  well_formed = record {
    narrow = λ sealed. lit≤ tt;
    ordered = lit≤ tt;
    fits = lit≤ tt;
    small = lit< tt;
    addresses = λ p ge lt. one p (omega arith) lt;
  };
  each = λ b home lt. let here : b ≡ 513 = omega arith in subst (λ (n : ℕ). with_updates (block_at image) (log_in image) n ≡ 8 ∷ []) (sym here) refl;
}
  where
    one : (p : ℕ) → 0 ≤ p → p < 2 → (513 ≤ address header p) × (address header p < 514)
    one zero ge lt = (lit≤ tt, lit< tt)
    one (suc zero) ge lt = (lit≤ tt, lit< tt)
    one (suc (suc p)) ge lt = absurd (omega arith)

-- 514 blocks of a sealed log whose last group begins at 0 and has that position alone: its update
-- is of block 513, its tag is 2, and the tag stands for a byte 9
abbrev sealed_header : Bytes
sealed_header = 0 ∷ 0 ∷ 0 ∷ 0 ∷ 0 ∷ 0 ∷ 0 ∷ 128 ∷ 1 ∷ 2 ∷ 0 ∷ 0 ∷ 0 ∷ 1 ∷ 2 ∷ 9 ∷ []

abbrev sealed_image : Bytes → List Bytes
sealed_image block = sealed_header ∷ [] ∷ block ∷ replicate 510 [] ++ (7 ∷ []) ∷ []

-- where its log block has the tag it is there, else it is not
sealed_ends : (end_in (sealed_image (2 ∷ 5 ∷ [])) ≡ 1) × (end_in (sealed_image (3 ∷ 5 ∷ [])) ≡ 0)
unfolding u64_at
sealed_ends = (refl, refl)

whole : StandsFor 514 (λ b. 9 ∷ 5 ∷ []) (sealed_image (2 ∷ 5 ∷ []))
unfolding u64_at with_bytes
whole = record {
  size = refl;
  well_formed = record {
    narrow = λ sealed. lit≤ tt;
    ordered = lit≤ tt;
    fits = lit≤ tt;
    small = lit< tt;
    addresses = λ p ge lt. one p (omega arith) lt;
  };
  each = λ b home lt. let here : b ≡ 513 = omega arith in
      subst (λ (n : ℕ). with_updates (block_at (sealed_image (2 ∷ 5 ∷ []))) (log_in (sealed_image (2 ∷ 5 ∷ []))) n ≡ 9 ∷ 5 ∷ []) (sym here) refl;
}
  where
    one : (p : ℕ) → 0 ≤ p → p < 1 → (513 ≤ home_by sealed_header p) × (home_by sealed_header p < 514)
    one zero ge lt = (lit≤ tt, lit< tt)
    one (suc p) ge lt = absurd (omega arith)

torn : StandsFor 514 (λ b. 7 ∷ []) (sealed_image (3 ∷ 5 ∷ []))
unfolding u64_at with_bytes
torn = record {
  size = refl;
  well_formed = record {
    narrow = λ sealed. lit≤ tt;
    ordered = lit≤ tt;
    fits = lit≤ tt;
    small = lit< tt;
    addresses = λ p ge lt. absurd (omega arith);
  };
  each = λ b home lt. let here : b ≡ 513 = omega arith in
      subst (λ (n : ℕ). with_updates (block_at (sealed_image (3 ∷ 5 ∷ []))) (log_in (sealed_image (3 ∷ 5 ∷ []))) n ≡ 7 ∷ []) (sym here) refl;
}
