-- What comes of a stream, in one piece or in several.
use Rattle.std.proofs.Common.{◌≡◌, ℕ, ◌+◌, ◌-◌, ◌<◌, ◌≤◌, Bool, true, false, eqb, List, [], ◌∷◌, ◌++◌, length, take, drop, refl, sym, ap, subst, ◌∙◌, append_assoc, arith}
use Rattle.std.specs.Prelude.{Result, Ok, Err, OnOk, OnErr, is_err, slice_index_or, if◌then◌else◌, ◌==◌, nat_lt, nat_le}
use Rattle.std.specs.Int.{w32, from_be_bytes}
use Rattle.std.proofs.lemmas.Bool.{ne_eqb, eq-eqb}
use Rattle.std.proofs.lemmas.List.{append-nil, take-append-drop}
use Rattle.journal_rpc.specs.declared.marking.Marking.{Marking}
use Rattle.journal_rpc.specs.declared.part.Part.{Part}
use Rattle.journal_rpc.specs.declared.part.Part.TheVariants.{Start, First, Second, Third, Body, TooLong}
use Rattle.journal_rpc.specs.Stream.{Stream, size_of, stream_ended, stream_opened, byte_came, after, ExtendsStream, Grown, Completed}

-- what has come, from its parts
abbrev pub stream : Marking → List (List ℕ) → List ℕ → Part → Stream
stream m records begun part = record { marking = m; records = records; begun = begun; part = part }

pub after-append : (s : Stream) (a b : List ℕ) → after s (a ++ b) ≡ after (after s a) b
unfolding after
after-append s [] b = refl
after-append s (x ∷ a) b = after-append (byte_came s.marking s.records s.begun s.part x) a b

pub after_none : (s : Stream) (bytes : List ℕ) → bytes ≡ [] → after s bytes ≡ s
unfolding after
after_none s bytes e = rw e refl

pub after_too_long : (m : Marking) (records : List (List ℕ)) (begun bytes : List ℕ) → after (stream m records begun TooLong) bytes ≡ stream m records begun TooLong
unfolding after
after_too_long m records begun [] = refl
after_too_long m records begun (x ∷ bytes) = after_too_long m records begun bytes

pub too_long_stays : (s : Stream) (bytes : List ℕ) → s.part ≡ TooLong → s ≡ after s bytes
too_long_stays s bytes is =
    let e : s ≡ stream s.marking s.records s.begun TooLong = ap (λ p. stream s.marking s.records s.begun p) is in
    e ∙ sym (after_too_long s.marking s.records s.begun bytes) ∙ ap (λ (t : Stream). after t bytes) (sym e)

-- where a header took a record above the limit, what stands behind it changes nothing
pub all_came : (old new : Stream) (n : ℕ) (piece : List ℕ) → new ≡ after old (take n piece) → new.part ≡ TooLong → new ≡ after old piece
all_came old new n piece is long =
    too_long_stays new (drop n piece) long
    ∙ ap (λ (s : Stream). after s (drop n piece)) is
    ∙ sym (after-append old (take n piece) (drop n piece))
    ∙ ap (after old) (take-append-drop n piece)

-- ---- a stream that goes on

pub Extends-refl : (s : Stream) → ExtendsStream s s
Extends-refl s = Grown [] refl refl (sym (append-nil s.begun))

pub Extends-trans : (old mid new : Stream) → ExtendsStream old mid → ExtendsStream mid new → ExtendsStream old new
Extends-trans old mid new (Grown e m r b) (Grown f n s c) = Grown (e ++ f) (n ∙ m) (s ∙ r) (c ∙ ap (λ (x : List ℕ). x ++ f) b ∙ append_assoc old.begun e f)
Extends-trans old mid new (Grown e l r b) (Completed f m k s) =
    Completed (e ++ f) m (k ∙ l) (s ∙ ap (λ (rs : List (List ℕ)). rs ++ (mid.begun ++ f) ∷ m) r ∙ ap (λ (x : List ℕ). old.records ++ x ∷ m) (ap (λ (x : List ℕ). x ++ f) b ∙ append_assoc old.begun e f))
Extends-trans old mid new (Completed e m l r) (Grown f k s c) = Completed e m (k ∙ l) (s ∙ r)
Extends-trans old mid new (Completed e m l r) (Completed f n k s) =
    Completed e (m ++ (mid.begun ++ f) ∷ n) (k ∙ l) (s ∙ ap (λ (rs : List (List ℕ)). rs ++ (mid.begun ++ f) ∷ n) r ∙ append_assoc old.records ((old.begun ++ e) ∷ m) ((mid.begun ++ f) ∷ n))

same_part : (m : Marking) (records : List (List ℕ)) (begun : List ℕ) (p q : Part) → ExtendsStream (stream m records begun p) (stream m records begun q)
same_part m records begun p q = Grown [] refl refl (sym (append-nil begun))

pub Extends-begun : (m : Marking) (records : List (List ℕ)) (begun extra : List ℕ) (p q : Part) → ExtendsStream (stream m records begun p) (stream m records (begun ++ extra) q)
Extends-begun m records begun extra p q = Grown extra refl refl refl

Extends-ended : (m : Marking) (records : List (List ℕ)) (begun extra : List ℕ) (p : Part) (last : Bool) → ExtendsStream (stream m records begun p) (stream_ended m records (begun ++ extra) last)
Extends-ended m records begun extra p true = Completed extra [] refl refl
Extends-ended m records begun extra p false = Grown extra refl refl refl

Extends-ended_now : (m : Marking) (records : List (List ℕ)) (begun : List ℕ) (p : Part) (last : Bool) → ExtendsStream (stream m records begun p) (stream_ended m records begun last)
Extends-ended_now m records begun p last = subst (λ (b : List ℕ). ExtendsStream (stream m records begun p) (stream_ended m records b last)) (append-nil begun) (Extends-ended m records begun [] p last)

Extends-begins : (m : Marking) (records : List (List ℕ)) (begun : List ℕ) (p : Part) (last : Bool) (size : ℕ) (big none : Bool) → ExtendsStream (stream m records begun p) (if big then stream m records begun TooLong else (if none then stream_ended m records begun last else stream m records begun (Body last size)))
Extends-begins m records begun p last size true none = same_part m records begun p TooLong
Extends-begins m records begun p last size false true = Extends-ended_now m records begun p last
Extends-begins m records begun p last size false false = same_part m records begun p (Body last size)

Extends-body : (m : Marking) (records : List (List ℕ)) (begun : List ℕ) (b left : ℕ) (p : Part) (last : Bool) (done : Bool) → ExtendsStream (stream m records begun p) (if done then stream_ended m records (begun ++ b ∷ []) last else stream m records (begun ++ b ∷ []) (Body last (left - 1)))
Extends-body m records begun b left p last true = Extends-ended m records begun (b ∷ []) p last
Extends-body m records begun b left p last false = Extends-begun m records begun (b ∷ []) p (Body last (left - 1))

Extends-byte : (m : Marking) (records : List (List ℕ)) (begun : List ℕ) (p : Part) (b : ℕ) → ExtendsStream (stream m records begun p) (byte_came m records begun p b)
Extends-byte m records begun Start b = same_part m records begun Start (First b)
Extends-byte m records begun (First x) b = same_part m records begun (First x) (Second x b)
Extends-byte m records begun (Second x y) b = same_part m records begun (Second x y) (Third x y b)
Extends-byte m records begun (Third x y z) b =
    let h = from_be_bytes w32 (x ∷ y ∷ z ∷ b ∷ []) in
    Extends-begins m records begun (Third x y z) (nat_le m.last h) (size_of m (nat_le m.last h) h) (nat_lt m.most_bytes (length begun + size_of m (nat_le m.last h) h)) (size_of m (nat_le m.last h) h == 0)
Extends-byte m records begun (Body last left) b = Extends-body m records begun b left (Body last left) last (left == 1)
Extends-byte m records begun TooLong b = same_part m records begun TooLong TooLong

pub Extends-after : (s : Stream) (bytes : List ℕ) → ExtendsStream s (after s bytes)
unfolding after
Extends-after s [] = Extends-refl s
Extends-after s (x ∷ bytes) = Extends-trans s (byte_came s.marking s.records s.begun s.part x) (after (byte_came s.marking s.records s.begun s.part x) bytes) (Extends-byte s.marking s.records s.begun s.part x) (Extends-after (byte_came s.marking s.records s.begun s.part x) bytes)

-- the first of some bytes comes
pub takes_one : (s : Stream) (m : Marking) (records : List (List ℕ)) (begun : List ℕ) (part p : Part) (bytes : List ℕ) → stream m records begun part ≡ s → part ≡ p → 0 < length bytes → byte_came m records begun p (slice_index_or bytes 0 0) ≡ after s (take 1 bytes)
unfolding after
takes_one s m records begun part p [] view is some = absurd (omega arith)
takes_one s m records begun part p (x ∷ bytes) view is some =
    ap (λ q. byte_came m records begun q x) (sym is) ∙ ap (λ (t : Stream). byte_came t.marking t.records t.begun t.part x) view

-- a whole header comes
pub takes_header : (s : Stream) (m : Marking) (records : List (List ℕ)) (begun : List ℕ) (part : Part) (bytes : List ℕ) → stream m records begun part ≡ s → part ≡ Start → 4 ≤ length bytes
    → stream_opened m records begun (from_be_bytes w32 (slice_index_or bytes 0 0 ∷ slice_index_or bytes 1 0 ∷ slice_index_or bytes 2 0 ∷ slice_index_or bytes 3 0 ∷ [])) ≡ after s (take 4 bytes)
unfolding after
takes_header s m records begun part [] view is some = absurd (omega arith)
takes_header s m records begun part (a ∷ []) view is some = absurd (omega arith)
takes_header s m records begun part (a ∷ b ∷ []) view is some = absurd (omega arith)
takes_header s m records begun part (a ∷ b ∷ c ∷ []) view is some = absurd (omega arith)
takes_header s m records begun part (a ∷ b ∷ c ∷ d ∷ bytes) view is some =
    ap (λ q. after (stream m records begun q) (a ∷ b ∷ c ∷ d ∷ [])) (sym is) ∙ ap (λ (t : Stream). after t (a ∷ b ∷ c ∷ d ∷ [])) view

-- ---- bytes of a body

pub body_on : (bytes : List ℕ) (m : Marking) (records : List (List ℕ)) (begun : List ℕ) (last : Bool) (left : ℕ) → length bytes < left → after (stream m records begun (Body last left)) bytes ≡ stream m records (begun ++ bytes) (Body last (left - length bytes))
unfolding after
body_on [] m records begun last left lt = ap (λ (b : List ℕ). stream m records b (Body last left)) (sym (append-nil begun)) ∙ ap (λ k. stream m records (begun ++ []) (Body last k)) (omega arith)
body_on (x ∷ bytes) m records begun last left lt =
    let more : eqb left 1 ≡ false = ne_eqb left 1 (λ e. omega arith) in
    ap (λ (s : Stream). after s bytes) (ap (λ b. if b then stream_ended m records (begun ++ x ∷ []) last else stream m records (begun ++ x ∷ []) (Body last (left - 1))) more)
    ∙ body_on bytes m records (begun ++ x ∷ []) last (left - 1) (omega arith)
    ∙ ap (λ (b : List ℕ). stream m records b (Body last (left - 1 - length bytes))) (append_assoc begun (x ∷ []) bytes)
    ∙ ap (λ k. stream m records (begun ++ x ∷ bytes) (Body last k)) (omega arith)

pub body_ends : (bytes : List ℕ) (m : Marking) (records : List (List ℕ)) (begun : List ℕ) (last : Bool) (left : ℕ) → 0 < left → length bytes ≡ left → after (stream m records begun (Body last left)) bytes ≡ stream_ended m records (begun ++ bytes) last
unfolding after
body_ends [] m records begun last left some is = absurd (omega arith)
body_ends (x ∷ []) m records begun last left some is =
    let done : eqb left 1 ≡ true = eq-eqb left 1 (omega arith) in
    ap (λ b. if b then stream_ended m records (begun ++ x ∷ []) last else stream m records (begun ++ x ∷ []) (Body last (left - 1))) done
body_ends (x ∷ y ∷ bytes) m records begun last left some is =
    let more : eqb left 1 ≡ false = ne_eqb left 1 (λ e. omega arith) in
    ap (λ (s : Stream). after s (y ∷ bytes)) (ap (λ b. if b then stream_ended m records (begun ++ x ∷ []) last else stream m records (begun ++ x ∷ []) (Body last (left - 1))) more)
    ∙ body_ends (y ∷ bytes) m records (begun ++ x ∷ []) last (left - 1) (omega arith) (omega arith)
    ∙ ap (λ (b : List ℕ). stream_ended m records b last) (append_assoc begun (x ∷ []) (y ∷ bytes))

-- ---- what a body's bytes do to a stream whose parts are these

pub body_goes : (s : Stream) (m : Marking) (records : List (List ℕ)) (begun grown : List ℕ) (part : Part) (last : Bool) (left : ℕ) (bytes : List ℕ) → stream m records begun part ≡ s → s.part ≡ Body last left → length bytes < left → grown ≡ begun ++ bytes → stream m records grown (Body last (left - length bytes)) ≡ after s bytes
body_goes s m records begun grown part last left bytes view here lt is =
    ap (λ (b : List ℕ). stream m records b (Body last (left - length bytes))) is
    ∙ sym (body_on bytes m records begun last left lt)
    ∙ ap (λ p. after (stream m records begun p) bytes) (sym (ap (λ (t : Stream). t.part) view ∙ here))
    ∙ ap (λ (t : Stream). after t bytes) view

pub body_done : (s : Stream) (m : Marking) (records : List (List ℕ)) (begun grown : List ℕ) (part : Part) (last : Bool) (left : ℕ) (bytes : List ℕ) → stream m records begun part ≡ s → s.part ≡ Body last left → 0 < left → length bytes ≡ left → grown ≡ begun ++ bytes → stream_ended m records grown last ≡ after s bytes
body_done s m records begun grown part last left bytes view here some len is =
    ap (λ (b : List ℕ). stream_ended m records b last) is
    ∙ sym (body_ends bytes m records begun last left some len)
    ∙ ap (λ p. after (stream m records begun p) bytes) (sym (ap (λ (t : Stream). t.part) view ∙ here))
    ∙ ap (λ (t : Stream). after t bytes) view

pub has_grown : (s new : Stream) (m : Marking) (records : List (List ℕ)) (begun extra grown : List ℕ) (part : Part) → stream m records begun part ≡ s → grown ≡ begun ++ extra → new ≡ stream m records grown part → ExtendsStream s new
has_grown s new m records begun extra grown part view is e =
    subst (λ (t : Stream). ExtendsStream t new) view (subst (λ (t : Stream). ExtendsStream (stream m records begun part) t) (sym e) (Grown extra refl refl is))

-- ---- on the error, and on success

pub on_err : {T E : Type 0} (r : Result T E) (P : Type 0) → P → OnErr r P
on_err (Ok x) P p = tt
on_err (Err e) P p = p

pub on_err_then : {T E P : Type 0} (r : Result T E) (Q : Type 0) → OnErr r P → (P → Q) → OnErr r Q
on_err_then (Ok x) Q h f = tt
on_err_then (Err e) Q h f = f h

pub on_ok_then : {T E P : Type 0} (r : Result T E) (Q : Type 0) → OnOk r P → (P → Q) → OnOk r Q
on_ok_then (Ok x) Q h f = f h
on_ok_then (Err e) Q h f = tt

pub on_the_err : {T E P : Type 0} (r : Result T E) → is_err r ≡ true → OnErr r P → P
on_the_err (Ok x) e h = absurd cc
on_the_err (Err x) e h = h

pub on_the_ok : {T E P : Type 0} (r : Result T E) → is_err r ≡ false → OnOk r P → P
on_the_ok (Ok x) e h = h
on_the_ok (Err x) e h = absurd cc
