-- Numbers of 4 bytes each are written over bytes, one behind another.
use Rattle.std.proofs.Common.{ℕ, ◌≡◌, ◌<◌, ◌≤◌, ◌+◌, ◌*◌, ◌++◌, List, [], ◌∷◌, length, take, drop, get_or, refl, sym, ap, ◌∙◌, append_assoc, length-append, w32, arith}
use Rattle.std.specs.Prelude.{flat_map}
use Rattle.std.specs.Int.{to_le_bytes}
use Rattle.std.proofs.lemmas.List.{take_more, length-take-le, drop-drop}
use Rattle.std.proofs.lemmas.List.Concat.{flat_map-append}
use Rattle.journal_treestore.specs.Bytes.{with_piece}
use Rattle.journal_treestore.proofs.Pieces.{behind}

abbrev bytes_of : List ℕ → List ℕ
bytes_of ns = flat_map (to_le_bytes w32) ns

pub length-bytes_of : (ns : List ℕ) → length (flat_map (to_le_bytes w32) ns) ≡ 4 * length ns
length-bytes_of [] = refl
length-bytes_of (n ∷ ns) =
    let rest : length (bytes_of ns) ≡ 4 * length ns = length-bytes_of ns in
    let first : length (to_le_bytes w32 n) ≡ 4 = refl in
    length-append (to_le_bytes w32 n) (bytes_of ns) ∙ omega (arith, rest, first)

-- one more number is written
pub one_more : (bytes ns : List ℕ) (from j : ℕ) → from + 4 * length ns ≤ length bytes → j < length ns
    → with_piece (take from bytes ++ bytes_of (take j ns) ++ drop (from + 4 * j) bytes) (from + 4 * j) (to_le_bytes w32 (get_or ns j 0))
    ≡ take from bytes ++ bytes_of (take (j + 1) ns) ++ drop (from + 4 * (j + 1)) bytes
one_more bytes ns from j room low =
    behind (take from bytes ++ bytes_of (take j ns)) (drop (from + 4 * j) bytes) (to_le_bytes w32 (get_or ns j 0)) (from + 4 * j) front_is
    ∙ ap (λ x. take from bytes ++ bytes_of (take j ns) ++ to_le_bytes w32 (get_or ns j 0) ++ x) (drop-drop 4 (from + 4 * j) bytes ∙ ap (λ k. drop k bytes) (let same : from + 4 * j + 4 ≡ from + 4 * (j + 1) = omega arith in same))
    ∙ ap (λ x. x ++ drop (from + 4 * (j + 1)) bytes) (append_assoc (take from bytes) (bytes_of (take j ns)) (to_le_bytes w32 (get_or ns j 0)) ∙ ap (λ x. take from bytes ++ x) last)
  where
    front_is : length (take from bytes ++ bytes_of (take j ns)) ≡ from + 4 * j
    front_is =
        let first : length (take from bytes) ≡ from = length-take-le from bytes (omega (arith, room)) in
        let rest : length (bytes_of (take j ns)) ≡ 4 * length (take j ns) = length-bytes_of (take j ns) in
        let many : length (take j ns) ≡ j = length-take-le j ns (omega (arith, low)) in
        length-append (take from bytes) (bytes_of (take j ns)) ∙ omega (arith, first, rest, many)

    last : bytes_of (take j ns) ++ to_le_bytes w32 (get_or ns j 0) ≡ bytes_of (take (j + 1) ns)
    last = sym (ap bytes_of (take_more ns j 0 low) ∙ flat_map-append (to_le_bytes w32) (take j ns) (get_or ns j 0 ∷ []))
