-- Which bits are found, by the map and by the bytes of the block.
use Rattle.std.proofs.Common.{◌≡◌, ◌<◌, ◌≤◌, ◌+◌, ◌-◌, nat_lt, ℕ, zero, suc, max, Bool, true, false, cond, IsTrue, List, [], ◌∷◌, ◌++◌, take, length, Option, Some, None, refl, sym, ap, subst, ◌∙◌, arith, length-take, length-append}
use mathlib.Core.Bool.{beq}
use Rattle.std.specs.List.{filter, range_with_len}
use Rattle.std.proofs.lemmas.Bool.{and_parts, false≢true}
use Rattle.std.proofs.lemmas.Bool.Decides.{nat_tests}
use Rattle.std.proofs.lemmas.List.{take_all, take-append-le, append-nil}
use Rattle.std.proofs.lemmas.List.Elements.{filter-append}
use Rattle.journal_world.specs.declared.address.Addr.{Addr}
use Rattle.journal_world.specs.declared.address.Kind.{Kind}
use Rattle.journal_world.specs.declared.address.Kind.TheVariants.{Bit, Record, Block}
use Rattle.journal_world.specs.declared.layout.TheConstants.{BLOCK_BITS}
use Rattle.journal_world.specs.Addresses.{Shape, kind_of, is_valid, starts_object, is_value_of, zeros_of}
use Rattle.journal_world.specs.Maps.{Map, value_at, is_value_at, zeros_at}
use Rattle.journal_block.specs.Block.{Bytes, bit_of}
use Rattle.journal_block.specs.declared.update.Update.{Update}
use Rattle.journal_block.specs.Updates.{updated, updates_block}
use Rattle.journal_object.specs.Objects.{object_of}
use Rattle.journal_tail.specs.Maps.{object_or_zeros}
use Rattle.journal_memory.specs.declared.bit_scan.BitScan.{BitScan}
use Rattle.journal_memory.specs.Updates.{IsOrNone, AreObjectsOf}
use Rattle.journal_memory.specs.Bits.{are_bits, is_scan, first_passing, is_bit, bit_in, found_bits, bits_in, AreBitsOf, Ascend, AreInOrder}

-- ---- numbers in a row

-- numbers in a row are the first n of them, and then the others
range_split : (a n m k : ℕ) → k ≡ n + m → range_with_len a k ≡ range_with_len a n ++ range_with_len (a + n) m
range_split a zero m k is =
    let all : k ≡ m = omega (arith, is) in
    let here : a ≡ a + 0 = omega arith in
    ap (range_with_len a) all ∙ ap (λ (b : ℕ). range_with_len b m) here
range_split a (suc n) m k is =
    let one : k ≡ suc (n + m) = omega (arith, is) in
    let here : a + 1 + n ≡ a + suc n = omega arith in
    ap (range_with_len a) one ∙ ap (λ (ns : List ℕ). a ∷ ns) (range_split (a + 1) n m (n + m) refl)
    ∙ ap (λ (b : ℕ). a ∷ range_with_len (a + 1) n ++ range_with_len b m) here

-- tests that answer the same let the same numbers through
filter_same : (p q : ℕ → Bool) (end a n : ℕ) → n ≤ end - a → ((k : ℕ) → k < end → p k ≡ q k) → filter p (range_with_len a n) ≡ filter q (range_with_len a n)
filter_same p q end a zero below same = refl
filter_same p q end a (suc n) below same =
    ap (λ (b : Bool). cond b (a ∷ filter p (range_with_len (a + 1) n)) (filter p (range_with_len (a + 1) n))) (same a (omega (arith, below)))
    ∙ ap (λ (ns : List ℕ). cond (q a) (a ∷ ns) ns) (filter_same p q end (a + 1) n (omega (arith, below)) same)

-- ---- what is found up to a bit

-- Of the bits below this one, which pass the test. No bit behind the block's last is looked at
pub record FoundBelow (test : ℕ → Bool) (s : BitScan) (bit : ℕ) (bits : List ℕ) : Type 0 where
  pub passed : bits ≡ filter test (range_with_len s.first (bit - s.first))
  pub few : length bits ≤ s.most
  pub within : bit ≤ max s.first BLOCK_BITS

module _ (test : ℕ → Bool) (s : BitScan) where
  pub found_none : FoundBelow test s s.first []
  found_none =
      let none : 0 ≡ s.first - s.first = omega arith in
      record { passed = ap (λ (n : ℕ). filter test (range_with_len s.first n)) none; few = omega arith; within = omega arith }

  more : (bit : ℕ) → s.first ≤ bit
      → filter test (range_with_len s.first (bit + 1 - s.first)) ≡ filter test (range_with_len s.first (bit - s.first)) ++ cond (test bit) (bit ∷ []) []
  more bit above =
      let here : s.first + (bit - s.first) ≡ bit = omega (arith, above) in
      ap (filter test) (range_split s.first (bit - s.first) 1 (bit + 1 - s.first) (omega (arith, above)))
      ∙ filter-append test (range_with_len s.first (bit - s.first)) (range_with_len (s.first + (bit - s.first)) 1)
      ∙ ap (λ (b : ℕ). filter test (range_with_len s.first (bit - s.first)) ++ cond (test b) (b ∷ []) []) here

  pub found_more : (bit : ℕ) (bits : List ℕ) → FoundBelow test s bit bits → s.first ≤ bit → bit < BLOCK_BITS → length bits < s.most → test bit ≡ true → FoundBelow test s (bit + 1) (bits ++ bit ∷ [])
  found_more bit bits found above inside room passes = record {
    passed = ap (λ (ns : List ℕ). ns ++ bit ∷ []) found.passed
        ∙ sym (more bit above ∙ ap (λ (b : Bool). filter test (range_with_len s.first (bit - s.first)) ++ cond b (bit ∷ []) []) passes);
    few = omega (arith, room, length-append bits (bit ∷ []));
    within = omega (arith, inside);
  }

  pub found_same : (bit : ℕ) (bits : List ℕ) → FoundBelow test s bit bits → s.first ≤ bit → bit < BLOCK_BITS → test bit ≡ false → FoundBelow test s (bit + 1) bits
  found_same bit bits found above inside fails = record {
    passed = found.passed ∙ sym (append-nil (filter test (range_with_len s.first (bit - s.first))))
        ∙ sym (more bit above ∙ ap (λ (b : Bool). filter test (range_with_len s.first (bit - s.first)) ++ cond b (bit ∷ []) []) fails);
    few = found.few;
    within = omega (arith, inside);
  }

  -- all bits were looked at
  pub found_all : (bit : ℕ) (bits : List ℕ) → FoundBelow test s bit bits → s.first ≤ bit → BLOCK_BITS ≤ bit → bits ≡ first_passing test s
  unfolding first_passing
  found_all bit bits found above past =
      let end : bit - s.first ≡ BLOCK_BITS - s.first = omega (arith, above, past, found.within) in
      sym (take_all s.most bits found.few)
      ∙ ap (take s.most) (found.passed ∙ ap (λ (n : ℕ). filter test (range_with_len s.first n)) end)

  -- or as many were found as are asked for
  pub found_enough : (bit : ℕ) (bits : List ℕ) → FoundBelow test s bit bits → s.first ≤ bit → bit ≤ BLOCK_BITS → s.most ≤ length bits → bits ≡ first_passing test s
  unfolding first_passing
  found_enough bit bits found above below enough =
      let here : List ℕ = filter test (range_with_len s.first (bit - s.first)) in
      let there : List ℕ = filter test (range_with_len (s.first + (bit - s.first)) (BLOCK_BITS - bit)) in
      let long : s.most ≤ length here = omega (arith, enough, ap length found.passed) in
      sym (take_all s.most bits found.few)
      ∙ ap (take s.most) found.passed
      ∙ sym (take-append-le s.most here there long)
      ∙ ap (take s.most)
      (sym (ap (filter test) (range_split s.first (bit - s.first) (BLOCK_BITS - bit) (BLOCK_BITS - s.first) (omega (arith, above, below)))
      ∙ filter-append test (range_with_len s.first (bit - s.first)) (range_with_len (s.first + (bit - s.first)) (BLOCK_BITS - bit))))

-- a bit passes where it has the value that is asked for
pub passes : (set bit : Bool) → is_bit set (cond bit 1 0 ∷ []) ≡ beq bit set
passes true true = refl
passes false false = refl
passes true false = refl
passes false true = refl

-- ---- the order

ascend_later : (first later end : ℕ) (ns : List ℕ) → first ≤ later → Ascend later end ns → Ascend first end ns
ascend_later first later end [] le ascend = tt
ascend_later first later end (n ∷ ns) le ascend = (omega (arith, le, ascend.0), ascend.1, ascend.2)

ascend_one : (b : Bool) (a end : ℕ) (ns : List ℕ) → a < end → Ascend (a + 1) end ns → Ascend a end (cond b (a ∷ ns) ns)
ascend_one true a end ns below rest = (omega arith, below, rest)
ascend_one false a end ns below rest = ascend_later a (a + 1) end ns (omega arith) rest

ascend_range : (test : ℕ → Bool) (end a n : ℕ) → n ≤ end - a → Ascend a end (filter test (range_with_len a n))
ascend_range test end a zero below = tt
ascend_range test end a (suc n) below =
    ascend_one (test a) a end (filter test (range_with_len (a + 1) n)) (omega (arith, below)) (ascend_range test end (a + 1) n (omega (arith, below)))

ascend_take : (k first end : ℕ) (ns : List ℕ) → Ascend first end ns → Ascend first end (take k ns)
ascend_take zero first end ns ascend = tt
ascend_take (suc k) first end [] ascend = tt
ascend_take (suc k) first end (n ∷ ns) ascend = (ascend.0, ascend.1, ascend_take k (n + 1) end ns ascend.2)

pub in_order : (test : ℕ → Bool) (s : BitScan) → AreInOrder s (first_passing test s)
unfolding first_passing
in_order test s =
    let all : List ℕ = filter test (range_with_len s.first (BLOCK_BITS - s.first)) in
    record {
      ascend = ascend_take s.most s.first BLOCK_BITS all (ascend_range test BLOCK_BITS s.first (BLOCK_BITS - s.first) (omega arith));
      few = omega (arith, length-take s.most all);
    }

-- ---- the map and the bytes

-- what is found in the bytes is what the map has
pub bits_found : (m : Map) (s : BitScan) (copy : Bytes) → AreBitsOf m s.block copy → bits_in copy s ≡ found_bits m s
unfolding first_passing
bits_found m s copy are =
    ap (take s.most)
    (filter_same (λ (n : ℕ). is_bit s.value (bit_in copy n)) (λ (n : ℕ). is_bit s.value (value_at m (record { block = s.block; off = n }))) BLOCK_BITS s.first
    (BLOCK_BITS - s.first) (omega arith) (λ n below. ap (is_bit s.value) (sym (are.values n below))))

-- objects that are bits are of that kind
is_of_bits : (kind : Option Kind) → IsTrue (are_bits kind) → kind ≡ Some Bit
is_of_bits None is = absurd (false≢true is)
is_of_bits (Some Bit) is = refl
is_of_bits (Some (Record size)) is = absurd (false≢true is)
is_of_bits (Some Block) is = absurd (false≢true is)

pub kind_is_bit : (layout : Shape) (s : BitScan) → IsTrue (is_scan layout s) → kind_of layout s.block ≡ Some Bit
kind_is_bit layout s is = is_of_bits (kind_of layout s.block) (and_parts (nat_lt s.first BLOCK_BITS) (are_bits (kind_of layout s.block)) is).1

-- a bit of a block is an object of it
is_there : (b : Bool) → cond (is_value_of Bit (cond b 1 0 ∷ [])) (cond b 1 0 ∷ []) (zeros_of Bit) ≡ cond b 1 0 ∷ []
is_there true = refl
is_there false = refl

bit_object : (kind : Option Kind) (bytes : Bytes) (n : ℕ) → kind ≡ Some Bit
    → cond (is_value_at kind (object_of kind bytes n)) (object_of kind bytes n) (zeros_at kind) ≡ bit_in bytes n
unfolding object_of
bit_object kind bytes n is =
    subst (λ (k : Option Kind). cond (is_value_at k (object_of k bytes n)) (object_of k bytes n) (zeros_at k) ≡ bit_in bytes n) (sym is) (is_there (bit_of bytes n))

bit_starts : (kind : Option Kind) (n : ℕ) → kind ≡ Some Bit → n < BLOCK_BITS → IsTrue (starts_object kind n)
bit_starts kind n is below = subst (λ (k : Option Kind). IsTrue (starts_object k n)) (sym is) (grind (arith, nat_tests, below))

-- the first bit is an object
pub scan_address : (layout : Shape) (s : BitScan) → IsTrue (is_scan layout s) → IsTrue (is_valid layout (record { block = s.block; off = s.first }))
scan_address layout s is =
    let below : IsTrue (nat_lt s.first BLOCK_BITS) = (and_parts (nat_lt s.first BLOCK_BITS) (are_bits (kind_of layout s.block)) is).0 in
    bit_starts (kind_of layout s.block) s.first (kind_is_bit layout s is) (grind (arith, nat_tests, below))

-- where updates have what the map gives, the bytes that they have of a block of bits are its bits
pub bits_known : (layout : Shape) (m : Map) (us : List Update) (s : BitScan) (copy : Bytes) → IsTrue (is_scan layout s) → AreObjectsOf layout m us
    → updates_block us s.block ≡ true → updated us s.block [] ≡ copy → AreBitsOf m s.block copy
bits_known layout m us s copy is are has content = record {
  values = λ n below.
      let a : Addr = record { block = s.block; off = n } in
      let kind = kind_is_bit layout s is in
      let found : object_or_zeros layout (updated us s.block []) a ≡ value_at m a =
      subst (λ (b : Bool). IsOrNone (value_at m a) (cond b (Some (object_or_zeros layout (updated us s.block []) a)) None)) has
      (are.values a (bit_starts (kind_of layout s.block) n kind below)) in
      sym found ∙ ap (λ (bytes : Bytes). object_or_zeros layout bytes a) content ∙ bit_object (kind_of layout s.block) copy n kind;
}
