-- A record that is whole in some bytes.
use Rattle.std.proofs.Common.{◌≡◌, ℕ, ◌≤◌, true, List, [], ◌∷◌, ◌++◌, length, take, drop, refl, sym, ap, ◌∙◌, append_assoc, arith}
use Rattle.std.specs.Prelude.{nat_le, slice_index_or}
use Rattle.std.specs.Int.{w32, from_be_bytes}
use Rattle.std.proofs.lemmas.List.{length-append, length-drop, take-append-drop}
use Rattle.journal_rpc.specs.declared.part.Part.{Part}
use Rattle.journal_rpc.specs.declared.part.Part.TheVariants.{Start}
use Rattle.journal_rpc.specs.Stream.{Stream, size_of, begins, after, IsBetween, IsSplit}
use Rattle.journal_rpc.proofs.Streams.{stream, after-append, takes_header}
use Rattle.journal_rpc.proofs.Cutting.{begins_fits}

-- The bytes begin with a header that marks a last fragment, and the fragment's bytes follow it
pub splits : (s : Stream) (bytes lent rest : List ℕ) → IsBetween s → 4 ≤ length bytes
    → nat_le s.marking.last (from_be_bytes w32 (slice_index_or bytes 0 0 ∷ slice_index_or bytes 1 0 ∷ slice_index_or bytes 2 0 ∷ slice_index_or bytes 3 0 ∷ [])) ≡ true
    → length lent ≡ size_of s.marking true (from_be_bytes w32 (slice_index_or bytes 0 0 ∷ slice_index_or bytes 1 0 ∷ slice_index_or bytes 2 0 ∷ slice_index_or bytes 3 0 ∷ []))
    → length lent ≤ s.marking.most_bytes → drop 4 bytes ≡ lent ++ rest → IsSplit s bytes lent rest
splits s bytes lent rest between long last size fits cut =
    let header = from_be_bytes w32 (slice_index_or bytes 0 0 ∷ slice_index_or bytes 1 0 ∷ slice_index_or bytes 2 0 ∷ slice_index_or bytes 3 0 ∷ []) in
    let m = s.marking in
    let whole : bytes ≡ take 4 bytes ++ (lent ++ rest) = sym (take-append-drop 4 bytes) ∙ ap (λ (t : List ℕ). take 4 bytes ++ t) cut in
    let opened : begins m s.records s.begun (nat_le m.last header) (size_of m (nat_le m.last header) header) ≡ after s (take 4 bytes) = takes_header s m s.records s.begun s.part bytes refl between.part long in
    let begun : begins m s.records s.begun (nat_le m.last header) (size_of m (nat_le m.last header) header) ≡ begins m s.records [] true (length lent) =
    ap (λ (b : List ℕ). begins m s.records b (nat_le m.last header) (size_of m (nat_le m.last header) header)) between.begun
    ∙ ap (λ l. begins m s.records [] l (size_of m l header)) last
    ∙ ap (begins m s.records [] true) (sym size) in
    record {
      taken = take 4 bytes ++ lent;
      is = whole ∙ sym (append_assoc (take 4 bytes) lent rest);
      some = omega (arith, ap (λ (t : List ℕ). length t) whole, length-append (take 4 bytes) (lent ++ rest), length-append lent rest, length-append (take 4 bytes) lent, long, ap (λ (t : List ℕ). length t) cut, length-drop 4 bytes);
      comes = after-append s (take 4 bytes) lent
          ∙ ap (λ (t : Stream). after t lent) (sym opened ∙ begun)
          ∙ begins_fits m s.records [] true lent (omega (arith, fits))
          ∙ ap (λ (b : List ℕ). stream m (s.records ++ lent ∷ []) b Start) (sym between.begun)
          ∙ ap (λ (p : Part). stream m (s.records ++ lent ∷ []) s.begun p) (sym between.part);
    }
