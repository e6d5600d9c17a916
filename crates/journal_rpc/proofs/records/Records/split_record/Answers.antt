use Rattle.std.proofs.Common.{◌≡◌, ◌≤◌, ℕ, Bool, true, List, [], ◌∷◌, ◌++◌, length, drop, sym, ap, ◌∙◌, arith, take-append-drop}
use Rattle.std.specs.Prelude.{nat_le, slice_index_or}
use Rattle.std.specs.Int.{w32, from_be_bytes}
use Rattle.journal_rpc.specs.declared.marking.Marking.{Marking}
use Rattle.journal_rpc.specs.Stream.{Stream, size_of}
use Rattle.journal_rpc.proofs.Splitting.{splits}
use Rattle.journal_rpc.proofs.records.Records.split_record.Goals as goal

pub returns : goal.returns
returns c =
    let bytes = c.args.bytes.now in
    let body = c.split_at.result.1.now in
    let lent = c.split_at-2.result.0.now in
    let rest = c.split_at-2.result.1.now in
    let k = c.read_header-last.result.1 in
    let mine = c.self.inside.marking in
    let m = c.args.self.now.marking in
    let header = from_be_bytes w32 (slice_index_or bytes 0 0 ∷ slice_index_or bytes 1 0 ∷ slice_index_or bytes 2 0 ∷ slice_index_or bytes 3 0 ∷ []) in
    let same : mine ≡ m = ap (λ (s : Stream). s.marking) c.self.view_is in
    let read : c.from_be_bytes-header.result ≡ header = c.from_be_bytes-header.ensures in
    let whole : nat_le mine.last c.from_be_bytes-header.result ≡ true = sym (ap (λ (p : Bool × ℕ). p.0) c.read_header-last.ensures) ∙ c.if-not-last.false in
    let last : nat_le m.last header ≡ true = ap (λ (x : Marking). nat_le x.last header) (sym same) ∙ ap (nat_le mine.last) (sym read) ∙ whole in
    let long : length lent ≡ k = c.split_at-2.ensures.front_len in
    let size : length lent ≡ size_of m true header =
    long
    ∙ ap (λ (p : Bool × ℕ). p.1) c.read_header-last.ensures
    ∙ ap (λ (l : Bool). size_of mine l c.from_be_bytes-header.result) whole
    ∙ ap (size_of mine true) read
    ∙ ap (λ (x : Marking). size_of x true header) same in
    let fits : length lent ≤ m.most_bytes = omega (arith, long, c.if-length-self.false, ap (λ (x : Marking). x.most_bytes) same) in
    let cut : drop 4 bytes ≡ lent ++ rest =
    sym c.split_at.ensures.back
    ∙ sym (take-append-drop k body)
    ∙ ap (λ (t : List ℕ). t ++ drop k body) (sym c.split_at-2.ensures.front)
    ∙ ap (λ (t : List ℕ). lent ++ t) (sym c.split_at-2.ensures.back) in
    record { split = splits c.args.self.now bytes lent rest c.if-not-is_between.ensures (omega (arith, c.if-bytes-lt-HEADER_BYTES.false)) last size fits cut }
