-- A stream of which some records were taken.
use Rattle.std.proofs.Common.{◌≡◌, ℕ, Bool, true, false, List, [], ◌∷◌, ◌++◌, length, refl, sym, ap, ◌∙◌, append_assoc, ◌+◌, ◌-◌}
use Rattle.std.specs.Prelude.{nat_lt, nat_le, ◌==◌, if◌then◌else◌}
use Rattle.std.specs.Int.{w32, from_be_bytes}
use Rattle.std.proofs.lemmas.List.{append-nil}
use Rattle.journal_rpc.specs.declared.marking.Marking.{Marking}
use Rattle.journal_rpc.specs.declared.part.Part.{Part}
use Rattle.journal_rpc.specs.declared.part.Part.TheVariants.{Start, First, Second, Third, Body, TooLong}
use Rattle.journal_rpc.specs.Stream.{Stream, fresh, size_of, stream_ended, byte_came, after, IsBetween, ExtendsStream, Grown, Completed}
use Rattle.journal_rpc.proofs.Streams.{stream, Extends-after}

-- the stream with records in front of its own
abbrev pub behind : List (List ℕ) → Stream → Stream
behind front s = record s { records = front ++ s.records }

ended_behind : (m : Marking) (front rs : List (List ℕ)) (begun : List ℕ) (last : Bool) → stream_ended m (front ++ rs) begun last ≡ behind front (stream_ended m rs begun last)
ended_behind m front rs begun true = ap (λ (all : List (List ℕ)). stream m all [] Start) (append_assoc front rs (begun ∷ []))
ended_behind m front rs begun false = refl

begins_behind : (m : Marking) (front rs : List (List ℕ)) (begun : List ℕ) (last : Bool) (size : ℕ) (big none : Bool)
    → (if big then stream m (front ++ rs) begun TooLong else (if none then stream_ended m (front ++ rs) begun last else stream m (front ++ rs) begun (Body last size)))
    ≡ behind front (if big then stream m rs begun TooLong else (if none then stream_ended m rs begun last else stream m rs begun (Body last size)))
begins_behind m front rs begun last size true none = refl
begins_behind m front rs begun last size false true = ended_behind m front rs begun last
begins_behind m front rs begun last size false false = refl

body_behind : (m : Marking) (front rs : List (List ℕ)) (begun : List ℕ) (last : Bool) (left : ℕ) (done : Bool)
    → (if done then stream_ended m (front ++ rs) begun last else stream m (front ++ rs) begun (Body last (left - 1)))
    ≡ behind front (if done then stream_ended m rs begun last else stream m rs begun (Body last (left - 1)))
body_behind m front rs begun last left true = ended_behind m front rs begun last
body_behind m front rs begun last left false = refl

byte_behind : (m : Marking) (front rs : List (List ℕ)) (begun : List ℕ) (p : Part) (b : ℕ) → byte_came m (front ++ rs) begun p b ≡ behind front (byte_came m rs begun p b)
byte_behind m front rs begun Start b = refl
byte_behind m front rs begun (First x) b = refl
byte_behind m front rs begun (Second x y) b = refl
byte_behind m front rs begun (Third x y z) b =
    let h = from_be_bytes w32 (x ∷ y ∷ z ∷ b ∷ []) in
    let size = size_of m (nat_le m.last h) h in
    begins_behind m front rs begun (nat_le m.last h) size (nat_lt m.most_bytes (length begun + size)) (size == 0)
byte_behind m front rs begun (Body last left) b = body_behind m front rs (begun ++ b ∷ []) last left (left == 1)
byte_behind m front rs begun TooLong b = refl

-- what comes is behind the records that were taken
pub after_behind : (front : List (List ℕ)) (s : Stream) (bytes : List ℕ) → after (behind front s) bytes ≡ behind front (after s bytes)
unfolding after
after_behind front s [] = refl
after_behind front s (x ∷ bytes) =
    ap (λ (t : Stream). after t bytes) (byte_behind s.marking front s.records s.begun s.part x) ∙ after_behind front (byte_came s.marking s.records s.begun s.part x) bytes

-- the records so far are the first of all
pub first_records : (s : Stream) (bytes : List ℕ) → (more : List (List ℕ)) × ((after s bytes).records ≡ s.records ++ more)
first_records s bytes = of (after s bytes) (Extends-after s bytes)
  where
    of : (t : Stream) → ExtendsStream s t → (more : List (List ℕ)) × (t.records ≡ s.records ++ more)
    of t (Grown e k r b) = ([], r ∙ sym (append-nil s.records))
    of t (Completed e m k r) = ((s.begun ++ e) ∷ m, r)

pub marking_stays : (s : Stream) (bytes : List ℕ) → (after s bytes).marking ≡ s.marking
marking_stays s bytes = of (after s bytes) (Extends-after s bytes)
  where
    of : (t : Stream) → ExtendsStream s t → t.marking ≡ s.marking
    of t (Grown e k r b) = k
    of t (Completed e m k r) = k

-- a stream between two records, of which none waits, is one of which nothing has come
pub is_fresh : (m : Marking) (input : List ℕ) (front : List (List ℕ)) (s : Stream) → after (fresh m) input ≡ behind front s → s.records ≡ [] → IsBetween s → s ≡ fresh m
is_fresh m input front s is none b =
    let same : s.marking ≡ m = ap (λ (t : Stream). t.marking) (sym is) ∙ marking_stays (fresh m) input in
    ap (λ (k : Marking). stream k s.records s.begun s.part) same
    ∙ ap (λ (rs : List (List ℕ)). stream m rs s.begun s.part) none
    ∙ ap (λ (x : List ℕ). stream m [] x s.part) b.begun
    ∙ ap (λ (p : Part). stream m [] [] p) b.part
