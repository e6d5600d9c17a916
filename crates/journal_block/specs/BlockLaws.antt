-- Laws of a block's numbers.
use Rattle.std.proofs.Common.{◌≡◌, ◌≤◌, ◌++◌, ℕ, length, refl, ap, arith}
use Rattle.std.proofs.lemmas.Slice.{drop-append-drop}
use Rattle.byteorder.specs.Numbers.{length-bytes_low_first}
use Rattle.journal_block.specs.Block.{Bytes, with_bytes, u64_bytes}

-- a number takes 8 bytes
pub length-u64_bytes : (n : ℕ) → length (u64_bytes n) ≡ 8
unfolding u64_bytes
length-u64_bytes n = length-bytes_low_first 0 8 n

-- of two numbers that are put at the front of a block the second remains
pub put_again : (bytes : Bytes) (m n : ℕ) → with_bytes (with_bytes bytes 0 (u64_bytes m)) 0 (u64_bytes n) ≡ with_bytes bytes 0 (u64_bytes n)
unfolding with_bytes u64_bytes
put_again bytes m n =
    let as_long : length (u64_bytes m) ≤ length (u64_bytes n) = omega (arith, length-u64_bytes m, length-u64_bytes n) in
    ap (λ (rest : Bytes). u64_bytes n ++ rest) (drop-append-drop (length (u64_bytes m)) bytes (u64_bytes m) (length (u64_bytes n)) as_long refl)
