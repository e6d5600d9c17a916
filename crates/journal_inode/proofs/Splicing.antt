-- Numbers of 8 bytes each are written over bytes, one behind another.
use Rattle.std.proofs.Common.{ℕ, ◌≡◌, ◌<◌, ◌≤◌, ◌+◌, ◌*◌, ◌++◌, List, [], ◌∷◌, length, take, drop, get_or, refl, sym, ap, ◌∙◌, append_assoc, length-append, w64, arith}
use Rattle.std.specs.Prelude.{flat_map}
use Rattle.std.specs.Int.{to_le_bytes}
use Rattle.std.proofs.lemmas.List.{take_at, take_more, length-take-le, drop-drop}
use Rattle.std.proofs.Math.Seq.{drop-append-add}
use Rattle.std.proofs.lemmas.List.Concat.{flat_map-append}
use Rattle.journal_inode.specs.declared.node.Time.{Time}
use Rattle.journal_inode.specs.Nodes.{with_piece, bytes_of_fields, no_more}

abbrev bytes_of : List ℕ → List ℕ
bytes_of ns = flat_map (to_le_bytes w64) ns

length-bytes_of : (ns : List ℕ) → length (bytes_of ns) ≡ 8 * length ns
length-bytes_of [] = refl
length-bytes_of (n ∷ ns) =
    let rest : length (bytes_of ns) ≡ 8 * length ns = length-bytes_of ns in
    let first : length (to_le_bytes w64 n) ≡ 8 = refl in
    length-append (to_le_bytes w64 n) (bytes_of ns) ∙ omega (arith, rest, first)

-- a piece right behind a front
behind : (front rest piece : List ℕ) (at : ℕ) → length front ≡ at → with_piece (front ++ rest) at piece ≡ front ++ piece ++ drop (length piece) rest
behind front rest piece at is =
    ap (λ x. x ++ piece ++ drop (at + length piece) (front ++ rest)) (take_at front rest at is)
    ∙ ap (λ x. front ++ piece ++ x) (ap (λ k. drop (k + length piece) (front ++ rest)) (sym is) ∙ drop-append-add front rest (length piece))

-- one more number is written
pub one_more : (bytes ns : List ℕ) (from j : ℕ) → from + 8 * length ns ≤ length bytes → j < length ns
    → with_piece (take from bytes ++ bytes_of (take j ns) ++ drop (from + 8 * j) bytes) (from + 8 * j) (to_le_bytes w64 (get_or ns j 0))
    ≡ take from bytes ++ bytes_of (take (j + 1) ns) ++ drop (from + 8 * (j + 1)) bytes
one_more bytes ns from j room low =
    behind (take from bytes ++ bytes_of (take j ns)) (drop (from + 8 * j) bytes) (to_le_bytes w64 (get_or ns j 0)) (from + 8 * j) front_is
    ∙ ap (λ x. take from bytes ++ bytes_of (take j ns) ++ to_le_bytes w64 (get_or ns j 0) ++ x) (drop-drop 8 (from + 8 * j) bytes ∙ ap (λ k. drop k bytes) (let same : from + 8 * j + 8 ≡ from + 8 * (j + 1) = omega arith in same))
    ∙ ap (λ x. x ++ drop (from + 8 * (j + 1)) bytes) (append_assoc (take from bytes) (bytes_of (take j ns)) (to_le_bytes w64 (get_or ns j 0)) ∙ ap (λ x. take from bytes ++ x) last)
  where
    front_is : length (take from bytes ++ bytes_of (take j ns)) ≡ from + 8 * j
    front_is =
        let first : length (take from bytes) ≡ from = length-take-le from bytes (omega (arith, room)) in
        let rest : length (bytes_of (take j ns)) ≡ 8 * length (take j ns) = length-bytes_of (take j ns) in
        let many : length (take j ns) ≡ j = length-take-le j ns (omega (arith, low)) in
        length-append (take from bytes) (bytes_of (take j ns)) ∙ omega (arith, first, rest, many)

    last : bytes_of (take j ns) ++ to_le_bytes w64 (get_or ns j 0) ≡ bytes_of (take (j + 1) ns)
    last = sym (ap bytes_of (take_more ns j 0 low) ∙ flat_map-append (to_le_bytes w64) (take j ns) (get_or ns j 0 ∷ []))

-- the further blocks in the bytes of an inode that has none
pub fields_more : (kind generation size block : ℕ) (mtime : Time) (more : List ℕ)
    → take 32 (bytes_of_fields kind generation size block mtime no_more) ++ bytes_of more ++ drop 120 (bytes_of_fields kind generation size block mtime no_more)
    ≡ bytes_of_fields kind generation size block mtime more
unfolding bytes_of_fields
fields_more kind generation size block mtime more = refl
