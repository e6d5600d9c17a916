-- A record is read as a call exactly where it is one.
use Rattle.std.proofs.Common.{◌≡◌, ℕ, Bool, true, false, cond, eqb, List, ◌++◌, Option, Some, None, refl, sym, ap, subst, ◌∙◌, append_assoc, ◌⊎◌, inl, inr}
use Rattle.std.specs.Prelude.{◌≢◌, ◌==◌, IfSome, IfNone}
use Rattle.std.proofs.lemmas.Bool.{ne_eqb}
use Rattle.std.proofs.lemmas.Bool.Decides.{eqb_tells}
use Rattle.journal_xdr.specs.Items.{◌>>=◌, pair, Spelled, IsGrammar}
use Rattle.journal_xdr.specs.ItemLaws.{pair_laws, made_laws, bind_some, some_is}
use Rattle.journal_xdr.specs.BasicLaws.{word_laws, opaque_laws, constant_laws}
use Rattle.journal_rpc.specs.Calls.{Beginning, beginning, Auth, no_auth, auth, Target, target, Asked, OtherVersion, Procedure, Message, procedure_message, message, Asks, IsCall}
use Rattle.journal_rpc.specs.CallViews.{message_of, ReadsCall}
use Rattle.journal_rpc.specs.declared.calls.Call.{Call}

pub beginning_laws : IsGrammar beginning
unfolding beginning
beginning_laws = made_laws _ _ _ (pair_laws _ _ word_laws (pair_laws _ _ (constant_laws 0) word_laws)) (λ p. refl) (λ b. refl)

pub auth_laws : IsGrammar auth
unfolding auth
auth_laws = made_laws _ _ _ (pair_laws _ _ word_laws (opaque_laws 400)) (λ p. refl) (λ a. refl)

pub target_laws : IsGrammar target
unfolding target
target_laws = made_laws _ _ _ (pair_laws _ _ word_laws (pair_laws _ _ word_laws (pair_laws _ _ word_laws (pair_laws _ _ auth_laws auth_laws)))) (λ p. refl) (λ t. refl)

-- ---- a whole header

-- the version is 2, or not
version_cases : (rpc : ℕ) → ((eqb rpc 2 ≡ true) × (rpc ≡ 2)) ⊎ ((eqb rpc 2 ≡ false) × (rpc ≢ 2))
version_cases rpc = eqb_tells rpc 2

abbrev some : {A : Type 0} → A → Option A
some x = Some x

-- a call of another version
other_message : (bytes : List ℕ) (xid rpc : ℕ) (rest : List ℕ) → rpc ≢ 2 → Spelled beginning bytes (record { xid = xid; rpc_version = rpc }) rest → message bytes ≡ Some (record { xid = xid; credential = no_auth; asked = OtherVersion })
unfolding message
other_message bytes xid rpc rest other s =
    ap (λ (found : Option (Beginning × List ℕ)). found >>= λ b. cond (b.0.rpc_version == 2) (procedure_message b.0.xid (target.reading b.1)) (some (record { xid = b.0.xid; credential = no_auth; asked = OtherVersion })))
    (ap beginning.reading s.parts ∙ beginning_laws.again (record { xid = xid; rpc_version = rpc }) rest s.has)
    ∙ ap (λ t. cond t (procedure_message xid (target.reading rest)) (some (record { xid = xid; credential = no_auth; asked = OtherVersion }))) (ne_eqb rpc 2 other)

procedure_read : (bytes : List ℕ) (xid : ℕ) (t : Target) (rest : List ℕ) → Spelled (pair beginning target) bytes (record { xid = xid; rpc_version = 2 }, t) rest → message bytes ≡ Some (record { xid = xid; credential = t.credential; asked = Procedure t.program t.version t.procedure rest })
unfolding message
procedure_read bytes xid t rest s =
    let b : Beginning = record { xid = xid; rpc_version = 2 } in
    ap (λ (found : Option (Beginning × List ℕ)). found >>= λ b. cond (b.0.rpc_version == 2) (procedure_message b.0.xid (target.reading b.1)) (some (record { xid = b.0.xid; credential = no_auth; asked = OtherVersion })))
    (ap beginning.reading (s.parts ∙ append_assoc (beginning.spelling b) (target.spelling t) rest) ∙ beginning_laws.again b (target.spelling t ++ rest) s.has.0)
    ∙ ap (procedure_message xid) (target_laws.again t rest s.has.1)

pub message_again : (bytes : List ℕ) (call : Message) → IsCall bytes call → message bytes ≡ Some call
message_again bytes call h = again call.xid call.credential call.asked h
  where
    again : (xid : ℕ) (credential : Auth) (asked : Asked) → Asks bytes xid credential asked → message bytes ≡ Some (record { xid = xid; credential = credential; asked = asked })
    again xid credential OtherVersion h = rw h.2 (other_message bytes xid h.0 h.1 h.3 h.4)
    again xid credential (Procedure program version procedure arguments) h =
        procedure_read bytes xid (record { program = program; version = version; procedure = procedure; credential = credential; verifier = h.0 }) arguments h.1

is_call : (bytes : List ℕ) (b : Beginning) (rest : List ℕ) (call : Message) → Spelled beginning bytes b rest
    → (t : Bool) → ((t ≡ true) × (b.rpc_version ≡ 2)) ⊎ ((t ≡ false) × (b.rpc_version ≢ 2)) → cond t (procedure_message b.xid (target.reading rest)) (some (record { xid = b.xid; credential = no_auth; asked = OtherVersion })) ≡ Some call → IsCall bytes call
is_call bytes b rest call s t (inl two) e =
    let other : Option Message = some (record { xid = b.xid; credential = no_auth; asked = OtherVersion }) in
    let f = bind_some (target.reading rest) (λ t. some (record { xid = b.xid; credential = t.0.credential; asked = Procedure t.0.program t.0.version t.0.procedure t.1 })) call (ap (λ u. cond u (procedure_message b.xid (target.reading rest)) other) (sym two.0) ∙ e) in
    let first : Spelled beginning bytes (record { xid = b.xid; rpc_version = 2 }) rest = subst (λ k. Spelled beginning bytes (record { xid = b.xid; rpc_version = k }) rest) two.1 s in
    let second = target_laws.takes rest f.0 f.1 in
    let both : Spelled (pair beginning target) bytes (record { xid = b.xid; rpc_version = 2 }, f.0.0) f.0.1 =
    record {
      has = (first.has, second.has);
      parts = first.parts ∙ ap (λ (r : List ℕ). beginning.spelling (record { xid = b.xid; rpc_version = 2 }) ++ r) second.parts ∙ sym (append_assoc (beginning.spelling (record { xid = b.xid; rpc_version = 2 })) (target.spelling f.0.0) f.0.1);
    } in
    subst (IsCall bytes) (some_is _ _ f.2) (f.0.0.verifier, both)
is_call bytes b rest call s t (inr other) e =
    let g : some (record { xid = b.xid; credential = no_auth; asked = OtherVersion }) ≡ Some call = ap (λ u. cond u (procedure_message b.xid (target.reading rest)) (some (record { xid = b.xid; credential = no_auth; asked = OtherVersion }))) (sym other.0) ∙ e in
    subst (IsCall bytes) (some_is _ _ g) (b.rpc_version, rest, refl, other.1, s)

pub message_takes : (bytes : List ℕ) (call : Message) → message bytes ≡ Some call → IsCall bytes call
unfolding message
message_takes bytes call e =
    let f = bind_some (beginning.reading bytes) (λ b. cond (b.0.rpc_version == 2) (procedure_message b.0.xid (target.reading b.1)) (some (record { xid = b.0.xid; credential = no_auth; asked = OtherVersion }))) call e in
    is_call bytes f.0.0 f.0.1 call (beginning_laws.takes bytes f.0 f.1) (f.0.0.rpc_version == 2) (version_cases f.0.0.rpc_version) f.2

-- ---- what a reader of calls answers

pub found : (bytes : List ℕ) (result : Option Call) → ReadsCall bytes result → IfSome result (λ call. IsCall bytes (message_of call))
found bytes (Some call) e = message_takes bytes (message_of call) e
found bytes None e = tt

pub none_found : (bytes : List ℕ) (result : Option Call) → ReadsCall bytes result → IfNone result ((call : Message) → ¬ (IsCall bytes call))
none_found bytes (Some call) e = tt
none_found bytes None e = λ call h. absurd (cc (message_again bytes call h, e))
