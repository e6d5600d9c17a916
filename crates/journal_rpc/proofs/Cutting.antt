-- A stream's bytes are the spellings of its records.
use Rattle.std.proofs.Common.{◌≡◌, ℕ, suc, ◌+◌, ◌^◌, ◌<◌, ◌≤◌, Bool, true, false, eqb, List, [], ◌∷◌, ◌++◌, length, refl, sym, ap, ◌∙◌, append_assoc, arith}
use Rattle.std.specs.Prelude.{nat_le, nat_lt, map, ◌==◌, if◌then◌else◌}
use Rattle.std.specs.List.{flat_map, AllByRecursion}
use Rattle.std.proofs.lemmas.Bool.{ne_eqb, le-ltb, lt-ltb, le-leb, lt-leb}
use Rattle.std.proofs.lemmas.List.{append-nil, length-append}
use Rattle.std.proofs.lemmas.Nat.{from_be_bytes-to_be_bytes_4}
use Rattle.journal_xdr.specs.Basic.{word}
use Rattle.journal_rpc.specs.declared.marking.Marking.{Marking}
use Rattle.journal_rpc.specs.declared.part.Part.{Part}
use Rattle.journal_rpc.specs.declared.part.Part.TheVariants.{Start, First, Second, Third, Body, TooLong}
use Rattle.journal_rpc.specs.Markings.{HasRoom}
use Rattle.journal_rpc.specs.Stream.{Stream, fresh, size_of, stream_ended, begins, stream_opened, after}
use Rattle.journal_rpc.specs.Cuts.{header, fragment, IsMarked, AreInner, Cut, together, spelled, record_of, cut_text, IsRecord, IsBegun, SpellsStream}
use Rattle.journal_rpc.proofs.Streams.{stream, after-append, body_ends, body_on, after_too_long}

module _ (m : Marking) where
  -- ---- what is spelled is read

  header_comes : (records : List (List ℕ)) (begun : List ℕ) (n : ℕ) → n < 2 ^ 32 → after (stream m records begun Start) (word.spelling n) ≡ stream_opened m records begun n
  unfolding after word
  header_comes records begun n lt = ap (stream_opened m records begun) (from_be_bytes-to_be_bytes_4 n lt)

  -- a header is read as it is spelled
  reads_header : (last : Bool) (size : ℕ) → IsMarked m last size → (nat_le m.last (header m last size) ≡ last) × (size_of m last (header m last size) ≡ size)
  reads_header true size marked = (le-leb _ _ (omega arith), omega arith)
  reads_header false size marked = (lt-leb m.last (0 + size) (omega (arith, marked)), omega arith)

  opens : (records : List (List ℕ)) (begun : List ℕ) (last : Bool) (size : ℕ) → IsMarked m last size → header m last size < 2 ^ 32
      → after (stream m records begun Start) (word.spelling (header m last size)) ≡ begins m records begun last size
  opens records begun last size marked lt =
      let h = reads_header last size marked in
      header_comes records begun (header m last size) lt
      ∙ ap (λ (l : Bool). begins m records begun l (size_of m l (header m last size))) h.0
      ∙ ap (begins m records begun last) h.1

  pub begins_fits : (records : List (List ℕ)) (begun : List ℕ) (last : Bool) (bytes : List ℕ) → length begun + length bytes ≤ m.most_bytes → after (begins m records begun last (length bytes)) bytes ≡ stream_ended m records (begun ++ bytes) last
  unfolding after
  begins_fits records begun last [] le =
      ap (λ b. if b then stream m records begun TooLong else stream_ended m records begun last) (le-ltb m.most_bytes (length begun + 0) (omega (arith, le)))
      ∙ ap (λ (b : List ℕ). stream_ended m records b last) (sym (append-nil begun))
  begins_fits records begun last (x ∷ bytes) le =
      let some : eqb (suc (length bytes)) 0 ≡ false = ne_eqb (suc (length bytes)) 0 (λ e. omega arith) in
      ap (λ b. after (if b then stream m records begun TooLong else (if suc (length bytes) == 0 then stream_ended m records begun last else stream m records begun (Body last (suc (length bytes))))) (x ∷ bytes)) (le-ltb m.most_bytes (length begun + suc (length bytes)) (omega (arith, le)))
      ∙ ap (λ b. after (if b then stream_ended m records begun last else stream m records begun (Body last (suc (length bytes)))) (x ∷ bytes)) some
      ∙ body_ends (x ∷ bytes) m records begun last (suc (length bytes)) (omega arith) refl

  -- a header that goes above the limit, and whatever is behind it
  header_above : (records : List (List ℕ)) (begun more : List ℕ) (n : ℕ) → n < 2 ^ 32 → m.most_bytes < length begun + size_of m (nat_le m.last n) n
      → after (stream m records begun Start) (word.spelling n ++ more) ≡ stream m records begun TooLong
  header_above records begun more n lt above =
      let last = nat_le m.last n in
      let size = size_of m last n in
      let big : nat_lt m.most_bytes (length begun + size) ≡ true = lt-ltb m.most_bytes (length begun + size) above in
      after-append (stream m records begun Start) (word.spelling n) more
      ∙ ap (λ (s : Stream). after s more) (header_comes records begun n lt
      ∙ ap (λ b. if b then stream m records begun TooLong else (if size == 0 then stream_ended m records begun last else stream m records begun (Body last size))) big)
      ∙ after_too_long m records begun more

  module _ (room : HasRoom m) where
    -- a header that is marked so fits
    header_fits : (last : Bool) (size : ℕ) → size ≤ m.most_bytes → header m last size < 2 ^ 32
    header_fits true size le = omega (arith, room, le)
    header_fits false size le = omega (arith, room, le)

    pub fragment_comes : (records : List (List ℕ)) (begun : List ℕ) (last : Bool) (bytes : List ℕ) → IsMarked m last (length bytes) → length begun + length bytes ≤ m.most_bytes
        → after (stream m records begun Start) (fragment m last bytes) ≡ stream_ended m records (begun ++ bytes) last
    fragment_comes records begun last bytes marked le =
        after-append (stream m records begun Start) (word.spelling (header m last (length bytes))) bytes
        ∙ ap (λ (s : Stream). after s bytes) (opens records begun last (length bytes) marked (header_fits last (length bytes) (omega (arith, le))))
        ∙ begins_fits records begun last bytes le

    -- the fragments before the last
    fragments_come : (records : List (List ℕ)) (begun : List ℕ) (before : List (List ℕ)) → AreInner m before → length begun + length (together before) ≤ m.most_bytes → after (stream m records begun Start) (spelled m before) ≡ stream m records (begun ++ together before) Start
    unfolding after
    fragments_come records begun [] inner le = ap (λ (b : List ℕ). stream m records b Start) (sym (append-nil begun))
    fragments_come records begun (f ∷ fs) inner le =
        let fits : length begun + (length f + length (together fs)) ≤ m.most_bytes = omega (arith, le, length-append f (together fs)) in
        after-append (stream m records begun Start) (fragment m false f) (spelled m fs)
        ∙ ap (λ (s : Stream). after s (spelled m fs)) (fragment_comes records begun false f inner.0 (omega (arith, fits)))
        ∙ fragments_come records (begun ++ f) fs inner.1 (omega (arith, fits, length-append begun f))
        ∙ ap (λ (b : List ℕ). stream m records b Start) (append_assoc begun f (together fs))

    -- a record in any cutting is read as the record
    pub cut_comes : (records : List (List ℕ)) (c : Cut) → IsRecord m c → after (stream m records [] Start) (cut_text m c) ≡ stream m (records ++ record_of c ∷ []) [] Start
    cut_comes records c fits =
        let lens = length-append (together c.before) c.last in
        after-append (stream m records [] Start) (spelled m c.before) (fragment m true c.last)
        ∙ ap (λ (s : Stream). after s (fragment m true c.last)) (fragments_come records [] c.before fits.1 (omega (arith, fits.0, lens)))
        ∙ fragment_comes records (together c.before) true c.last tt (omega (arith, fits.0, lens))

    -- ---- what is spelled in some bytes is what comes with them

    -- a header of a fragment of which some bytes are still to come
    body_begins : (records : List (List ℕ)) (begun got : List ℕ) (last : Bool) (left : ℕ) → IsMarked m last (length got + left) → 0 < left → length begun + (length got + left) ≤ m.most_bytes
        → after (stream m records begun Start) (word.spelling (header m last (length got + left)) ++ got) ≡ stream m records (begun ++ got) (Body last left)
    body_begins records begun got last left marked some le =
        let size = length got + left in
        let fits : nat_lt m.most_bytes (length begun + size) ≡ false = le-ltb m.most_bytes (length begun + size) (omega (arith, le)) in
        let filled : (size == 0) ≡ false = ne_eqb size 0 (λ e. omega (arith, some, e)) in
        after-append (stream m records begun Start) (word.spelling (header m last size)) got
        ∙ ap (λ (s : Stream). after s got) (opens records begun last size marked (header_fits last size (omega (arith, le)))
        ∙ ap (λ b. if b then stream m records begun TooLong else (if size == 0 then stream_ended m records begun last else stream m records begun (Body last size))) fits
        ∙ ap (λ b. if b then stream_ended m records begun last else stream m records begun (Body last size)) filled)
        ∙ body_on got m records begun last size (omega (arith, some))
        ∙ ap (λ k. stream m records (begun ++ got) (Body last k)) (omega arith)

    begun_comes : (records : List (List ℕ)) (front begun tail : List ℕ) (p : Part) → IsBegun m p front begun tail → after (stream m records front Start) tail ≡ stream m records begun p
    unfolding after
    begun_comes records front begun tail Start r = rw (r.0, r.1) refl
    begun_comes records front begun tail (First a) r = rw (r.0, r.1) refl
    begun_comes records front begun tail (Second a b) r = rw (r.0, r.1) refl
    begun_comes records front begun tail (Third a b c) r = rw (r.0, r.1) refl
    begun_comes records front begun tail (Body last left) r =
        ap (after (stream m records front Start)) r.2 ∙ body_begins records front r.0 last left r.5 r.3 r.4 ∙ ap (λ (b : List ℕ). stream m records b (Body last left)) (sym r.1)
    begun_comes records front begun tail TooLong r =
        ap (after (stream m records front Start)) r.3 ∙ header_above records front r.1 r.0 r.4 r.5 ∙ ap (λ (b : List ℕ). stream m records b TooLong) (sym r.2)

    cuts_come : (records : List (List ℕ)) (cuts : List Cut) → AllByRecursion (IsRecord m) cuts → after (stream m records [] Start) (flat_map (cut_text m) cuts) ≡ stream m (records ++ map record_of cuts) [] Start
    unfolding after
    cuts_come records [] each = ap (λ (rs : List (List ℕ)). stream m rs [] Start) (sym (append-nil records))
    cuts_come records (c ∷ cuts) each =
        after-append (stream m records [] Start) (cut_text m c) (flat_map (cut_text m) cuts)
        ∙ ap (λ (s : Stream). after s (flat_map (cut_text m) cuts)) (cut_comes records c each.0)
        ∙ cuts_come (records ++ record_of c ∷ []) cuts each.1
        ∙ ap (λ (rs : List (List ℕ)). stream m rs [] Start) (append_assoc records (record_of c ∷ []) (map record_of cuts))

pub spelled_comes : (bytes : List ℕ) (s : Stream) → HasRoom s.marking → SpellsStream bytes s → s ≡ after (fresh s.marking) bytes
spelled_comes bytes s room h =
    let cuts = h.cuts in
    let m = s.marking in
    let come : after (fresh m) bytes ≡ s =
    ap (after (fresh m)) h.is
    ∙ after-append (fresh m) (flat_map (cut_text m) cuts) (spelled m h.before ++ h.tail)
    ∙ ap (λ (t : Stream). after t (spelled m h.before ++ h.tail)) (cuts_come m room [] cuts h.each)
    ∙ after-append (stream m (map record_of cuts) [] Start) (spelled m h.before) h.tail
    ∙ ap (λ (t : Stream). after t h.tail) (fragments_come m room (map record_of cuts) [] h.before h.inner (omega (arith, h.fits)))
    ∙ begun_comes m room (map record_of cuts) (together h.before) s.begun h.tail s.part h.rest
    ∙ ap (λ (rs : List (List ℕ)). stream m rs s.begun s.part) (sym h.records) in
    sym come
