-- The laws of requests and answers.
use Rattle.std.proofs.Common.{◌≡◌, ℕ, ◌+◌, ◌*◌, ◌^◌, ◌<◌, ◌≤◌, ◌==◌, Bool, true, false, cond, List, [], ◌∷◌, ◌++◌, length, Option, Some, None, Err, refl, sym, ap, ◌∙◌, arith, rules}
use Rattle.std.specs.List.{flat_map, AllByRecursion}
use Rattle.std.specs.Prelude.{IsSomeAnd}
use Rattle.std.proofs.lemmas.List.{length-append, append-nil}
use Rattle.std.proofs.lemmas.Bool.{eqb-true}
use Rattle.journal_world.specs.declared.address.Addr.{Addr}
use Rattle.journal_xdr.specs.Items.{Item, ◌>>=◌, pair, only, variant, IsGrammar}
use Rattle.journal_xdr.specs.ItemLaws.{bind_some, some_is, pair_laws, made_laws, coded_laws, tagged_laws, only_laws, variant_laws}
use Rattle.journal_xdr.specs.Basic.{word, hyper, boolean, opaque}
use Rattle.journal_xdr.specs.BasicLaws.{word_laws, hyper_laws, boolean_laws, opaque_laws, enumeration_laws, length-word, length-hyper, opaque_short}
use Rattle.journal_world.specs.declared.layout.TheConstants.{REGIONS}
use Rattle.journal_records.specs.declared.limits.TheConstants.{PARTS, ADDRESSES, VALUE_BYTES, BITS, COUNTERS, RECORD_BYTES}
use Rattle.journal_records.specs.declared.answer.Counter.{Counter}
use Rattle.journal_records.specs.declared.greeting.ObjectRegion.{ObjectRegion}
use Rattle.journal_records.specs.declared.greeting.Version.{Version}
use Rattle.journal_records.specs.declared.greeting.Version.TheVariants.{One, Two}
use Rattle.journal_records.specs.declared.operation.Operation.{Operation}
use Rattle.journal_records.specs.declared.operation.Operation.TheVariants as operations
use Rattle.journal_records.specs.declared.refused.Refused as reason
use Rattle.journal_records.specs.declared.request.Part.{Part}
use Rattle.journal_records.specs.Operations.{operation, operation_of, operation_number, operation_back, action, action_of, action_number, action_back, version, version_of, version_number, version_back}
use Rattle.journal_records.specs.Statuses.{refused_of, refused_number, refused_back}
use Rattle.journal_records.specs.Arrays.{array, several}
use Rattle.journal_records.specs.Requests.{Message, value, address, part, request, request_arm, operation_asked}
use Rattle.journal_records.specs.Requests as asked
use Rattle.journal_records.specs.Answers.{Told, Status, Done, NotSure, NotDone, status, status_of, status_number, done, done_arm, operation_told, region, counter, opening, greeting, greeting_arm, version_told, answer, answer_arm, status_told}
use Rattle.journal_records.specs.Answers as told
use Rattle.journal_records.specs.Frames.{IsShort}
use Rattle.journal_records.specs.Readings.{AsksUnknown, SpellsNone, IsSpelling, Reads, ReadsRequest, ReadsAnswer}
use Rattle.journal_records.specs.declared.fault.ReadFault.{ReadFault}
use Rattle.journal_records.specs.declared.fault.ReadFault.TheVariants as fault
use Rattle.journal_records.specs.Requests.{message_of}
use Rattle.journal_records.specs.Answers.{told_of}
use Rattle.journal_records.proofs.Lists.{array_laws}

abbrev some_of : {T : Type 0} → T × List ℕ → Option (T × List ℕ)
some_of x = Some x

-- ---- the tag of a variant's values

variant_tag : {A T X : Type 0} (a : Item A) (make : A → T) (part : T → Option A) (tag_of : T → X) (x : X) → ((v : T) (p : A) → part v ≡ Some p → make p ≡ v) → ((p : A) → tag_of (make p) ≡ x)
    → (v : T) → (variant a make part).Has v → tag_of v ≡ x
variant_tag {A} {T} a make part tag_of x back is v has = at (part v) refl has
  where
    at : (found : Option A) → part v ≡ found → IsSomeAnd found a.Has → tag_of v ≡ x
    at (Some p) found has = ap tag_of (sym (back v p found)) ∙ is p
    at None found has = absurd has

only_tag : {T X : Type 0} (one : T) (tag_of : T → X) (v : T) → (only one).Has v → tag_of v ≡ tag_of one
only_tag one tag_of v has = ap tag_of has

-- ---- requests

value_laws : IsGrammar value
unfolding value
value_laws = opaque_laws VALUE_BYTES

address_laws : IsGrammar address
unfolding address
address_laws = made_laws _ _ _ (pair_laws _ _ hyper_laws word_laws) (λ p. refl) (λ a. refl)

action_laws : IsGrammar action
action_laws = enumeration_laws action_of action_number action_back

part_laws : IsGrammar part
unfolding part
part_laws = made_laws _ _ _ (pair_laws _ _ action_laws (pair_laws _ _ address_laws value_laws)) (λ p. refl) (λ a. refl)

operation_laws : IsGrammar operation
operation_laws = enumeration_laws operation_of operation_number operation_back

hello_is : (m : Message) (p : ℕ) → asked.hello_part m ≡ Some p → asked.Hello p ≡ m
hello_is (asked.Hello version) p e = cc
hello_is _ p e = absurd cc

commit_is : (m : Message) (p : Bool × List Part) → asked.commit_part m ≡ Some p → asked.Commit p.1 p.0 ≡ m
commit_is (asked.Commit parts waits) p e = let is = some_is (waits, parts) p e in rw (← is) refl
commit_is _ p e = absurd cc

read_is : (m : Message) (p : List Addr) → asked.read_part m ≡ Some p → asked.Read p ≡ m
read_is (asked.Read addresses) p e = cc
read_is _ p e = absurd cc

scan_is : (m : Message) (p : ℕ × (ℕ × (Bool × ℕ))) → asked.scan_part m ≡ Some p → asked.Scan p.0 p.1.0 p.1.1.0 p.1.1.1 ≡ m
scan_is (asked.Scan block first value most) p e = let is = some_is (block, (first, (value, most))) p e in rw (← is) refl
scan_is _ p e = absurd cc

request_arm_laws : (o : Operation) → IsGrammar (request_arm o)
request_arm_laws operations.Hello = variant_laws _ _ _ word_laws (λ p. refl) hello_is
request_arm_laws operations.Commit = variant_laws _ _ _ (pair_laws _ _ boolean_laws (array_laws PARTS part part_laws)) (λ p. refl) commit_is
request_arm_laws operations.Read = variant_laws _ _ _ (array_laws ADDRESSES address address_laws) (λ p. refl) read_is
request_arm_laws operations.Flush = only_laws asked.Flush
request_arm_laws operations.Stat = only_laws asked.Stat
request_arm_laws operations.Stop = only_laws asked.Stop
request_arm_laws operations.Counters = only_laws asked.Counters
request_arm_laws operations.Scan = variant_laws _ _ _ (pair_laws _ _ hyper_laws (pair_laws _ _ word_laws (pair_laws _ _ boolean_laws word_laws))) (λ p. refl) scan_is

request_arm_is : (o : Operation) (m : Message) → (request_arm o).Has m → operation_asked m ≡ o
request_arm_is operations.Hello = variant_tag word (λ version. asked.Hello version) asked.hello_part operation_asked operations.Hello hello_is (λ p. refl)
request_arm_is operations.Commit = variant_tag (pair boolean (array PARTS part)) (λ p. asked.Commit p.1 p.0) asked.commit_part operation_asked operations.Commit commit_is (λ p. refl)
request_arm_is operations.Read = variant_tag (array ADDRESSES address) (λ addresses. asked.Read addresses) asked.read_part operation_asked operations.Read read_is (λ p. refl)
request_arm_is operations.Flush = only_tag asked.Flush operation_asked
request_arm_is operations.Stat = only_tag asked.Stat operation_asked
request_arm_is operations.Stop = only_tag asked.Stop operation_asked
request_arm_is operations.Counters = only_tag asked.Counters operation_asked
request_arm_is operations.Scan = variant_tag (pair hyper (pair word (pair boolean word))) (λ p. asked.Scan p.0 p.1.0 p.1.1.0 p.1.1.1) asked.scan_part operation_asked operations.Scan scan_is (λ p. refl)

pub request_laws : IsGrammar request
unfolding request
request_laws = tagged_laws operation request_arm operation_asked operation_laws request_arm_laws request_arm_is

-- what begins with a number of no operation is no request
unknown_word : (bytes : List ℕ) → AsksUnknown bytes → operation.reading bytes ≡ None
unknown_word bytes unknown =
    ap (λ (o : Option (ℕ × List ℕ)). o >>= λ x. operation_of x.0 >>= λ v. Some (v, x.1)) (ap word.reading unknown.2.parts ∙ word_laws.again unknown.0 unknown.1 unknown.2.has)
    ∙ ap (λ (o : Option Operation). o >>= λ v. Some (v, unknown.1)) unknown.3

pub unknown_reads_none : (bytes : List ℕ) → AsksUnknown bytes → request.reading bytes ≡ None
unfolding request
unknown_reads_none bytes unknown = ap (λ (o : Option (Operation × List ℕ)). o >>= λ x. (request_arm x.0).reading x.1) (unknown_word bytes unknown)

-- what is spelled is read, with nothing behind it
pub spelling_reads : {T : Type 0} (item : Item T) → IsGrammar item → (bytes : List ℕ) (v : T) → IsSpelling item bytes v → item.reading bytes ≡ Some (v, [])
spelling_reads item laws bytes v is = ap item.reading (is.1 ∙ sym (append-nil (item.spelling v))) ∙ laws.again v [] is.0

pub unknown_is_none : (bytes : List ℕ) → AsksUnknown bytes → SpellsNone request bytes
unknown_is_none bytes unknown m is = absurd (let a = unknown_reads_none bytes unknown in let b = spelling_reads request request_laws bytes m is in cc)

-- ---- what was read of a request

-- the operation's number stands at the front
operation_read : (bytes rest : List ℕ) (n : ℕ) (o : Operation) → word.reading bytes ≡ Some (n, rest) → operation_of n ≡ Some o → operation.reading bytes ≡ Some (o, rest)
operation_read bytes rest n o number is =
    ap (λ (w : Option (ℕ × List ℕ)). w >>= λ x. operation_of x.0 >>= λ v. Some (v, x.1)) number ∙ ap (λ (m : Option Operation). m >>= λ v. Some (v, rest)) is

request_read : (bytes rest : List ℕ) (n : ℕ) (o : Operation) → word.reading bytes ≡ Some (n, rest) → operation_of n ≡ Some o → request.reading bytes ≡ (request_arm o).reading rest
unfolding request
request_read bytes rest n o number is = ap (λ (w : Option (Operation × List ℕ)). w >>= λ x. (request_arm x.0).reading x.1) (operation_read bytes rest n o number is)

pub no_request : (bytes : List ℕ) → request.reading bytes ≡ None → SpellsNone request bytes
no_request bytes none m is = absurd (let b = spelling_reads request request_laws bytes m is in cc)

known : (bytes rest : List ℕ) (n : ℕ) (o : Operation) → word.reading bytes ≡ Some (n, rest) → operation_of n ≡ Some o → ¬ (AsksUnknown bytes)
known bytes rest n o number is unknown =
    let a = operation_read bytes rest n o number is in
    let b = unknown_word bytes unknown in
    absurd cc

-- no number stands there
no_operation : (bytes : List ℕ) → word.reading bytes ≡ None → operation.reading bytes ≡ None
no_operation bytes none = ap (λ (w : Option (ℕ × List ℕ)). w >>= λ x. operation_of x.0 >>= λ v. Some (v, x.1)) none

no_number : (bytes : List ℕ) → word.reading bytes ≡ None → request.reading bytes ≡ None
unfolding request
no_number bytes none = ap (λ (w : Option (Operation × List ℕ)). w >>= λ x. (request_arm x.0).reading x.1) (no_operation bytes none)

word_known : (bytes : List ℕ) → word.reading bytes ≡ None → ¬ (AsksUnknown bytes)
word_known bytes none unknown = absurd (let a = ap word.reading unknown.2.parts ∙ word_laws.again unknown.0 unknown.1 unknown.2.has in cc)

pub no_word : (bytes : List ℕ) → word.reading bytes ≡ None → SpellsNone request bytes × ¬ (AsksUnknown bytes)
no_word bytes none = (no_request bytes (no_number bytes none), word_known bytes none)

-- what stands behind the number is not read
pub asked_fault : (bytes rest new : List ℕ) (n : ℕ) (o : Operation) (why : ReadFault) → word.reading bytes ≡ Some (n, rest) → operation_of n ≡ Some o
    → Reads (request_arm o) message_of rest new (Err why) → ReadsRequest bytes (Err why)
asked_fault bytes rest new n o fault.NoMemory number is reads = tt
asked_fault bytes rest new n o fault.UnknownOperation number is reads = absurd reads
asked_fault bytes rest new n o fault.Malformed number is reads = (no_request bytes (request_read bytes rest n o number is ∙ reads), known bytes rest n o number is)

-- it is read whole
pub whole_is_spelled : {T : Type 0} (item : Item T) → IsGrammar item → (bytes : List ℕ) (m : T) → item.reading bytes ≡ Some (m, []) → IsSpelling item bytes m
whole_is_spelled item laws bytes m is = let s = laws.takes bytes (m, []) is in (s.has, s.parts ∙ append-nil (item.spelling m))

pub asked_whole : (bytes rest new : List ℕ) (n : ℕ) (o : Operation) (m : Message) → word.reading bytes ≡ Some (n, rest) → operation_of n ≡ Some o
    → (request_arm o).reading rest ≡ Some (m, new) → new ≡ [] → IsSpelling request bytes m
asked_whole bytes rest new n o m number is reads none =
    whole_is_spelled request request_laws bytes m (request_read bytes rest n o number is ∙ reads ∙ ap (λ (r : List ℕ). some_of (m, r)) none)

-- something stands behind it
pub more_is_none : {T : Type 0} (item : Item T) → IsGrammar item → (bytes new : List ℕ) (m : T) → item.reading bytes ≡ Some (m, new) → ¬ (new ≡ []) → SpellsNone item bytes
more_is_none item laws bytes new m reads more v is =
    more (ap (λ p. p.1) (some_is (m, new) (v, []) (sym reads ∙ spelling_reads item laws bytes v is)))

pub asked_more : (bytes rest new : List ℕ) (n : ℕ) (o : Operation) (m : Message) → word.reading bytes ≡ Some (n, rest) → operation_of n ≡ Some o
    → (request_arm o).reading rest ≡ Some (m, new) → ¬ (new ≡ []) → SpellsNone request bytes × ¬ (AsksUnknown bytes)
asked_more bytes rest new n o m number is reads more =
    (more_is_none request request_laws bytes new m (request_read bytes rest n o number is ∙ reads) more, known bytes rest n o number is)

-- ---- answers

status_back : (n : ℕ) (s : Status) → status_of n ≡ Some s → status_number s ≡ n
status_back n s e = at (n == 0) refl (n == 65) refl e
  where
    at : (zero : Bool) → (n == 0) ≡ zero → (unsure : Bool) → (n == 65) ≡ unsure → cond zero (Some Done) (cond unsure (Some NotSure) (refused_of n >>= λ why. Some (NotDone why))) ≡ Some s → status_number s ≡ n
    at true is unsure was e = ap status_number (sym (some_is Done s e)) ∙ sym (eqb-true n 0 is)
    at false is true was e = ap status_number (sym (some_is NotSure s e)) ∙ sym (eqb-true n 65 was)
    at false is false was e =
        let p = bind_some (refused_of n) (λ why. Some (NotDone why)) s e in
        ap status_number (sym (some_is (NotDone p.0) s p.2)) ∙ refused_back n p.0 p.1

status_laws : IsGrammar status
status_laws = coded_laws word status_of status_number word_laws (λ n s h e. status_back n s e)

version_laws : IsGrammar version
version_laws = enumeration_laws version_of version_number version_back

region_laws : IsGrammar region
unfolding region
region_laws = made_laws _ _ _ (pair_laws _ _ hyper_laws word_laws) (λ p. refl) (λ r. refl)

counter_laws : IsGrammar counter
unfolding counter
counter_laws = made_laws _ _ _ (pair_laws _ _ word_laws hyper_laws) (λ p. refl) (λ c. refl)

told_hello_is : (m : Told) (p : ℕ) → told.hello_part m ≡ Some p → told.Hello p ≡ m
told_hello_is (told.Hello blocks) p e = cc
told_hello_is _ p e = absurd cc

opening_is : (m : Told) (p : ℕ × (ℕ × (ℕ × (ℕ × List ObjectRegion)))) → told.opening_part m ≡ Some p → told.Opening p.0 p.1.0 p.1.1.0 p.1.1.1.0 p.1.1.1.1 ≡ m
opening_is (told.Opening blocks number slots most_blocks regions) p e = let is = some_is (blocks, (number, (slots, (most_blocks, regions)))) p e in rw (← is) refl
opening_is _ p e = absurd cc

committed_is : (m : Told) (p : ℕ × ℕ) → told.committed_part m ≡ Some p → told.Committed p.0 p.1 ≡ m
committed_is (told.Committed a b) p e = let is = some_is (a, b) p e in rw (← is) refl
committed_is _ p e = absurd cc

values_is : (m : Told) (p : List (List ℕ)) → told.values_part m ≡ Some p → told.Values p ≡ m
values_is (told.Values vs) p e = cc
values_is _ p e = absurd cc

flushed_is : (m : Told) (p : ℕ) → told.flushed_part m ≡ Some p → told.Flushed p ≡ m
flushed_is (told.Flushed n) p e = cc
flushed_is _ p e = absurd cc

stat_is : (m : Told) (p : ℕ × ℕ) → told.stat_part m ≡ Some p → told.Stat p.0 p.1 ≡ m
stat_is (told.Stat a b) p e = let is = some_is (a, b) p e in rw (← is) refl
stat_is _ p e = absurd cc

unsure_is : (m : Told) (p : ℕ × ℕ) → told.unsure_part m ≡ Some p → told.Unsure p.0 p.1 ≡ m
unsure_is (told.Unsure a b) p e = let is = some_is (a, b) p e in rw (← is) refl
unsure_is _ p e = absurd cc

counters_is : (m : Told) (p : List Counter) → told.counters_part m ≡ Some p → told.Counters p ≡ m
counters_is (told.Counters cs) p e = cc
counters_is _ p e = absurd cc

bits_is : (m : Told) (p : List ℕ) → told.bits_part m ≡ Some p → told.Bits p ≡ m
bits_is (told.Bits bs) p e = cc
bits_is _ p e = absurd cc

opening_laws : IsGrammar opening
unfolding opening
opening_laws = variant_laws _ _ _ (pair_laws _ _ hyper_laws (pair_laws _ _ hyper_laws (pair_laws _ _ word_laws (pair_laws _ _ word_laws (array_laws REGIONS region region_laws))))) (λ p. refl) opening_is

greeting_arm_laws : (v : Version) → IsGrammar (greeting_arm v)
greeting_arm_laws One = variant_laws _ _ _ hyper_laws (λ p. refl) told_hello_is
greeting_arm_laws Two = opening_laws

greeting_arm_is : (v : Version) (m : Told) → (greeting_arm v).Has m → version_told m ≡ v
unfolding opening
greeting_arm_is One = variant_tag hyper (λ blocks. told.Hello blocks) told.hello_part version_told One told_hello_is (λ p. refl)
greeting_arm_is Two = variant_tag (pair hyper (pair hyper (pair word (pair word (array REGIONS region))))) (λ p. told.Opening p.0 p.1.0 p.1.1.0 p.1.1.1.0 p.1.1.1.1) told.opening_part version_told Two opening_is (λ p. refl)

greeting_laws : IsGrammar greeting
unfolding greeting
greeting_laws = tagged_laws version greeting_arm version_told version_laws greeting_arm_laws greeting_arm_is

-- what answers a hello
greeting_operation : (m : Told) → greeting.Has m → operation_told m ≡ operations.Hello
unfolding greeting
greeting_operation (told.Hello blocks) has = refl
greeting_operation (told.Opening blocks number slots most_blocks regions) has = refl
greeting_operation (told.Committed a b) has = absurd has.1
greeting_operation (told.Values vs) has = absurd has.1
greeting_operation (told.Flushed n) has = absurd has.1
greeting_operation (told.Stat a b) has = absurd has.1
greeting_operation told.Stopping has = absurd has.1
greeting_operation (told.Counters cs) has = absurd has.1
greeting_operation (told.Bits bs) has = absurd has.1
greeting_operation (told.Unsure a b) has = absurd has.1
greeting_operation (told.Refused why) has = absurd has.1

done_arm_laws : (o : Operation) → IsGrammar (done_arm o)
done_arm_laws operations.Hello = greeting_laws
done_arm_laws operations.Commit = variant_laws _ _ _ (pair_laws _ _ hyper_laws hyper_laws) (λ p. refl) committed_is
done_arm_laws operations.Read = variant_laws _ _ _ (array_laws ADDRESSES value value_laws) (λ p. refl) values_is
done_arm_laws operations.Flush = variant_laws _ _ _ hyper_laws (λ p. refl) flushed_is
done_arm_laws operations.Stat = variant_laws _ _ _ (pair_laws _ _ hyper_laws hyper_laws) (λ p. refl) stat_is
done_arm_laws operations.Stop = only_laws told.Stopping
done_arm_laws operations.Counters = variant_laws _ _ _ (array_laws COUNTERS counter counter_laws) (λ p. refl) counters_is
done_arm_laws operations.Scan = variant_laws _ _ _ (array_laws BITS word word_laws) (λ p. refl) bits_is

done_arm_is : (o : Operation) (m : Told) → (done_arm o).Has m → operation_told m ≡ o
done_arm_is operations.Hello = greeting_operation
done_arm_is operations.Commit = variant_tag (pair hyper hyper) (λ p. told.Committed p.0 p.1) told.committed_part operation_told operations.Commit committed_is (λ p. refl)
done_arm_is operations.Read = variant_tag (array ADDRESSES value) (λ values. told.Values values) told.values_part operation_told operations.Read values_is (λ p. refl)
done_arm_is operations.Flush = variant_tag hyper (λ stable. told.Flushed stable) told.flushed_part operation_told operations.Flush flushed_is (λ p. refl)
done_arm_is operations.Stat = variant_tag (pair hyper hyper) (λ p. told.Stat p.0 p.1) told.stat_part operation_told operations.Stat stat_is (λ p. refl)
done_arm_is operations.Stop = only_tag told.Stopping operation_told
done_arm_is operations.Counters = variant_tag (array COUNTERS counter) (λ p. told.Counters p) told.counters_part operation_told operations.Counters counters_is (λ p. refl)
done_arm_is operations.Scan = variant_tag (array BITS word) (λ p. told.Bits p) told.bits_part operation_told operations.Scan bits_is (λ p. refl)

done_laws : IsGrammar done
unfolding done
done_laws = tagged_laws operation done_arm operation_told operation_laws done_arm_laws done_arm_is

-- what was done has the status of it
done_status : (m : Told) → done.Has m → status_told m ≡ Done
unfolding done
done_status (told.Hello blocks) has = refl
done_status (told.Opening blocks number slots most_blocks regions) has = refl
done_status (told.Committed a b) has = refl
done_status (told.Values vs) has = refl
done_status (told.Flushed n) has = refl
done_status (told.Stat a b) has = refl
done_status told.Stopping has = refl
done_status (told.Counters cs) has = refl
done_status (told.Bits bs) has = refl
done_status (told.Unsure a b) has = absurd (let e : told.Unsure a b ≡ told.Stopping = has.1 in cc)
done_status (told.Refused why) has = absurd (let e : told.Refused why ≡ told.Stopping = has.1 in cc)

answer_arm_laws : (s : Status) → IsGrammar (answer_arm s)
answer_arm_laws Done = done_laws
answer_arm_laws NotSure = variant_laws _ _ _ (pair_laws _ _ hyper_laws hyper_laws) (λ p. refl) unsure_is
answer_arm_laws (NotDone why) = only_laws (told.Refused why)

answer_arm_is : (s : Status) (m : Told) → (answer_arm s).Has m → status_told m ≡ s
answer_arm_is Done m has = done_status m has
answer_arm_is NotSure m has = variant_tag (pair hyper hyper) (λ p. told.Unsure p.0 p.1) told.unsure_part status_told NotSure unsure_is (λ p. refl) m has
answer_arm_is (NotDone why) m has = only_tag (told.Refused why) status_told m has

pub answer_laws : IsGrammar answer
unfolding answer
answer_laws = tagged_laws status answer_arm status_told status_laws answer_arm_laws answer_arm_is

-- ---- what was read of an answer

pub told_fault : (bytes new : List ℕ) (why : ReadFault) → Reads answer told_of bytes new (Err why) → ReadsAnswer bytes (Err why)
told_fault bytes new fault.NoMemory reads = tt
told_fault bytes new fault.UnknownOperation reads = reads
told_fault bytes new fault.Malformed reads = λ m is. absurd (let b = spelling_reads answer answer_laws bytes m is in cc)

pub told_whole : (bytes new : List ℕ) (m : Told) → answer.reading bytes ≡ Some (m, new) → new ≡ [] → IsSpelling answer bytes m
told_whole bytes new m reads none = whole_is_spelled answer answer_laws bytes m (reads ∙ ap (λ (r : List ℕ). some_of (m, r)) none)

pub told_more : (bytes new : List ℕ) (m : Told) → answer.reading bytes ≡ Some (m, new) → ¬ (new ≡ []) → SpellsNone answer bytes
told_more bytes new m reads more = more_is_none answer answer_laws bytes new m reads more

-- ---- how long answers are

value_length : (bytes : List ℕ) → value.Has bytes → length (value.spelling bytes) ≤ 4103
unfolding value opaque
value_length bytes has =
    let le : length bytes ≤ VALUE_BYTES = search (rules, has.0.1) in
    omega (arith, opaque_short VALUE_BYTES bytes, le)

values_length : (vs : List (List ℕ)) → AllByRecursion value.Has vs → length (flat_map value.spelling vs) ≤ 4103 * length vs
values_length [] all = omega arith
values_length (v ∷ vs) all = omega (arith, length-append (value.spelling v) (flat_map value.spelling vs), value_length v all.0, values_length vs all.1)

array_length : (vs : List (List ℕ)) → (array ADDRESSES value).Has vs → length ((array ADDRESSES value).spelling vs) ≤ 1050372
unfolding array several
array_length vs has =
    let le : length vs ≤ ADDRESSES = search (rules, has.0.1) in
    omega (arith, length-append (word.spelling (length vs)) (flat_map value.spelling vs), length-word (length vs), values_length vs has.1.1, le)

regions_length : (rs : List ObjectRegion) → length (flat_map region.spelling rs) ≤ 12 * length rs
unfolding region
regions_length [] = omega arith
regions_length (r ∷ rs) = omega (arith, length-append (region.spelling r) (flat_map region.spelling rs), length-append (hyper.spelling r.first) (word.spelling r.bits), length-hyper r.first, length-word r.bits, regions_length rs)

counters_length : (cs : List Counter) → length (flat_map counter.spelling cs) ≤ 12 * length cs
unfolding counter
counters_length [] = omega arith
counters_length (c ∷ cs) = omega (arith, length-append (counter.spelling c) (flat_map counter.spelling cs), length-append (word.spelling c.name) (hyper.spelling c.value), length-word c.name, length-hyper c.value, counters_length cs)

words_length : (ns : List ℕ) → length (flat_map word.spelling ns) ≤ 4 * length ns
words_length [] = omega arith
words_length (n ∷ ns) = omega (arith, length-append (word.spelling n) (flat_map word.spelling ns), length-word n, words_length ns)

region_array_length : (rs : List ObjectRegion) → (array REGIONS region).Has rs → length ((array REGIONS region).spelling rs) ≤ 100
unfolding array several
region_array_length rs has =
    let le : length rs ≤ REGIONS = search (rules, has.0.1) in
    omega (arith, length-append (word.spelling (length rs)) (flat_map region.spelling rs), length-word (length rs), regions_length rs, le)

counter_array_length : (cs : List Counter) → (array COUNTERS counter).Has cs → length ((array COUNTERS counter).spelling cs) ≤ 3076
unfolding array several
counter_array_length cs has =
    let le : length cs ≤ COUNTERS = search (rules, has.0.1) in
    omega (arith, length-append (word.spelling (length cs)) (flat_map counter.spelling cs), length-word (length cs), counters_length cs, le)

word_array_length : (ns : List ℕ) → (array BITS word).Has ns → length ((array BITS word).spelling ns) ≤ 131076
unfolding array several
word_array_length ns has =
    let le : length ns ≤ BITS = search (rules, has.0.1) in
    omega (arith, length-append (word.spelling (length ns)) (flat_map word.spelling ns), length-word (length ns), words_length ns, le)

-- the spelling of a number before others
behind_word : (n k : ℕ) (rest : List ℕ) → length rest ≤ k → length (word.spelling n ++ rest) ≤ 4 + k
behind_word n k rest le = omega (arith, length-append (word.spelling n) rest, length-word n, le)

behind_hyper : (n k : ℕ) (rest : List ℕ) → length rest ≤ k → length (hyper.spelling n ++ rest) ≤ 8 + k
behind_hyper n k rest le = omega (arith, length-append (hyper.spelling n) rest, length-hyper n, le)

hyper_length : (n : ℕ) → length (hyper.spelling n) ≤ 8
hyper_length n = omega (arith, length-hyper n)

less : (n m : ℕ) → n ≤ m → m ≤ 1050380 → n ≤ RECORD_BYTES
less n m a b = omega (arith, a, b)

pub answer_length : (m : Told) → answer.Has m → IsShort (answer.spelling m)
unfolding answer done greeting opening
answer_length (told.Hello blocks) has = less _ _ (behind_word 0 _ _ (behind_word 0 _ _ (behind_word 1 _ _ (hyper_length blocks)))) (omega arith)
answer_length (told.Opening blocks number slots most_blocks regions) has =
    less _ _ (behind_word 0 _ _ (behind_word 0 _ _ (behind_word 2 _ _ (behind_hyper blocks _ _ (behind_hyper number _ _ (behind_word slots _ _ (behind_word most_blocks _ _ (region_array_length regions has.1.1.1.1.1.1.1)))))))) (omega arith)
answer_length (told.Committed a b) has = less _ _ (behind_word 0 _ _ (behind_word 1 _ _ (behind_hyper a _ _ (hyper_length b)))) (omega arith)
answer_length (told.Values vs) has = less _ _ (behind_word 0 _ _ (behind_word 2 _ _ (array_length vs has.1.1))) (omega arith)
answer_length (told.Flushed n) has = less _ _ (behind_word 0 _ _ (behind_word 3 _ _ (hyper_length n))) (omega arith)
answer_length (told.Stat a b) has = less _ _ (behind_word 0 _ _ (behind_word 4 _ _ (behind_hyper a _ _ (hyper_length b)))) (omega arith)
answer_length told.Stopping has = less _ _ (behind_word 0 _ _ (behind_word 5 0 [] (omega arith))) (omega arith)
answer_length (told.Counters cs) has = less _ _ (behind_word 0 _ _ (behind_word 6 _ _ (counter_array_length cs has.1.1))) (omega arith)
answer_length (told.Bits bs) has = less _ _ (behind_word 0 _ _ (behind_word 7 _ _ (word_array_length bs has.1.1))) (omega arith)
answer_length (told.Unsure a b) has = less _ _ (behind_word 65 _ _ (behind_hyper a _ _ (hyper_length b))) (omega arith)
answer_length (told.Refused why) has = less _ _ (behind_word (refused_number why) 0 [] (omega arith)) (omega arith)

-- ---- a commit that is not known to be stable

pub unsure_has : (place commits : ℕ) → place < 2 ^ 64 → commits < 2 ^ 64 → answer.Has (told.Unsure place commits)
unfolding answer word hyper
unsure_has place commits small few = ((omega arith, refl), (small, few))

-- ---- lists that requests and answers have

pub commit_has : (parts : List Part) (waits : Bool) → request.Has (asked.Commit parts waits) → (array PARTS part).Has parts
unfolding request
commit_has parts waits has = has.1.1

pub read_has : (addresses : List Addr) → request.Has (asked.Read addresses) → (array ADDRESSES address).Has addresses
unfolding request
read_has addresses has = has.1

pub values_has : (vs : List (List ℕ)) → answer.Has (told.Values vs) → (array ADDRESSES value).Has vs
unfolding answer done
values_has vs has = has.1.1

pub regions_has : (blocks number slots most_blocks : ℕ) (regions : List ObjectRegion) → answer.Has (told.Opening blocks number slots most_blocks regions) → (array REGIONS region).Has regions
unfolding answer done greeting opening
regions_has blocks number slots most_blocks regions has = has.1.1.1.1.1.1.1

pub counters_has : (cs : List Counter) → answer.Has (told.Counters cs) → (array COUNTERS counter).Has cs
unfolding answer done
counters_has cs has = has.1.1

pub bits_has : (bs : List ℕ) → answer.Has (told.Bits bs) → (array BITS word).Has bs
unfolding answer done
bits_has bs has = has.1.1
