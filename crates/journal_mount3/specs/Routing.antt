-- What journal_nfs3 answers is asked of the nine procedures here too.
use Rattle.std.proofs.Common.{◌≡◌, ℕ, Bool, true, false, List, Option, Some, None, Result, Ok, Err, refl, sym, ap, subst, ◌∙◌}
use Rattle.std.specs.Prelude.{◌==◌}
use Rattle.std.proofs.lemmas.Bool.{eqb-true}
use Rattle.journal_rpc.specs.Calls.{Asked, OtherVersion, Procedure}
use Rattle.journal_nfs3_wire.specs.declared.procedure.Procedure as file_procedure
use Rattle.journal_nfs3_wire.specs.declared.procedure.Procedure.TheVariants.{Null, GetAttributes, SetAttributes, Lookup, Read, Write, Create, Remove, Commit}
use Rattle.journal_nfs3_wire.specs.Procedures.{procedure_of, procedure_number, procedure_back}
use Rattle.journal_nfs3_wire.specs.Arguments.{Operation}
use Rattle.journal_nfs3_wire.specs.Calls.{called, asks as asks_nine_alone}
use Rattle.journal_nfs3_wire.specs.declared.query.QueryProcedure.{QueryProcedure}
use Rattle.journal_nfs3_wire.specs.Queries.{query_procedure_of, Query, query_arguments}
use Rattle.journal_nfs3_wire.specs.Whole.{whole}
use Rattle.journal_rpc.specs.declared.replies.CallRefused.{CallRefused}
use Rattle.journal_rpc.specs.declared.replies.CallRefused.TheVariants.{ProgramUnavailable, ProgramMismatch}
use Rattle.journal_mount_wire.specs.Arguments.{MountCall}
use Rattle.journal_mount_wire.specs.Requests.{mount_requested}
use Rattle.journal_mount3.specs.Calls.{Requested, nine, query, refusable, asks, asks_nine, asks_query, asks_files, asks_mount, asks_mount_call}

-- no number is that of one of the nine and of another procedure of NFS
no_query : (p : file_procedure.Procedure) → query_procedure_of (procedure_number p) ≡ None
no_query Null = refl
no_query GetAttributes = refl
no_query SetAttributes = refl
no_query Lookup = refl
no_query Read = refl
no_query Write = refl
no_query Create = refl
no_query Remove = refl
no_query Commit = refl

-- a procedure that is not served has no operation
unserved : (arguments : List ℕ) (operation : Operation) → called None arguments ≡ Ok operation → ⊥
unfolding called
unserved arguments operation e = absurd cc

files_nine : (number : ℕ) (arguments : List ℕ) (operation : Operation) → called (procedure_of number) arguments ≡ Ok operation → asks_files number arguments ≡ Ok (nine operation)
files_nine number arguments operation is = of (procedure_of number) refl
  where
    of : (o : Option file_procedure.Procedure) → procedure_of number ≡ o → asks_files number arguments ≡ Ok (nine operation)
    of (Some p) e =
        let same : procedure_number p ≡ number = procedure_back number p e in
        let none : query_procedure_of number ≡ None = subst (λ (n : ℕ). query_procedure_of n ≡ None) same (no_query p) in
        rw none (ap asks_nine is)
    of None e = absurd (unserved arguments operation (subst (λ (o : Option file_procedure.Procedure). called o arguments ≡ Ok operation) e is))

pub asked_nine : (asked : Asked) (operation : Operation) → asks_nine_alone asked ≡ Ok operation → asks asked ≡ Ok (nine operation)
asked_nine OtherVersion operation is = absurd cc
asked_nine (Procedure program version number arguments) operation is = of (program == 100003) (version == 3) refl refl
  where
    of : (a b : Bool) → (program == 100003) ≡ a → (version == 3) ≡ b → asks (Procedure program version number arguments) ≡ Ok (nine operation)
    of true true e f =
        let program_is : program ≡ 100003 = eqb-true program 100003 e in
        let version_is : version ≡ 3 = eqb-true version 3 f in
        let here : called (procedure_of number) arguments ≡ Ok operation = subst (λ (v : ℕ). asks_nine_alone (Procedure 100003 v number arguments) ≡ Ok operation) version_is
        (subst (λ (q : ℕ). asks_nine_alone (Procedure q version number arguments) ≡ Ok operation) program_is is) in
        rw (program_is, version_is) (files_nine number arguments operation here)
    of true false e f = absurd cc
    of false b e f = absurd cc

-- and what is asked of the nine here is what journal_nfs3 answers
nine_is : (r : Result Operation CallRefused) (operation : Operation) → asks_nine r ≡ Ok (nine operation) → r ≡ Ok operation
nine_is (Ok other) operation e = ap Ok (of other operation e)
  where
    as_nine : Result Requested CallRefused → Operation → Operation
    as_nine (Ok (nine o)) other = o
    as_nine r other = other

    of : (other operation : Operation) → ◌≡◌ {A = Result Requested CallRefused} (Ok (nine other)) (Ok (nine operation)) → other ≡ operation
    of other operation e = ap (λ (r : Result Requested CallRefused). as_nine r operation) e
nine_is (Err why) operation e = absurd cc

query_not_nine : (o : Option Query) (operation : Operation) → refusable query o ≡ Ok (nine operation) → ⊥
query_not_nine None operation e = absurd cc
query_not_nine (Some q) operation e = absurd cc

mount_not_nine : (r : Result MountCall CallRefused) (operation : Operation) → asks_mount_call r ≡ Ok (nine operation) → ⊥
mount_not_nine (Ok call) operation e = absurd cc
mount_not_nine (Err why) operation e = absurd cc

pub nine_asked : (asked : Asked) (operation : Operation) → asks asked ≡ Ok (nine operation) → asks_nine_alone asked ≡ Ok operation
nine_asked OtherVersion operation is = absurd cc
nine_asked (Procedure program version number arguments) operation is = of (program == 100005) (program == 100003) (version == 3) refl refl refl
  where
    of_query : (o : Option QueryProcedure) → asks_query o number arguments ≡ Ok (nine operation) → called (procedure_of number) arguments ≡ Ok operation
    of_query None e = nine_is (called (procedure_of number) arguments) operation e
    of_query (Some p) e = absurd (query_not_nine (whole (query_arguments p) arguments) operation e)

    of : (a b c : Bool) → (program == 100005) ≡ a → (program == 100003) ≡ b → (version == 3) ≡ c → asks_nine_alone (Procedure program version number arguments) ≡ Ok operation
    of true b true e f g =
        let here : asks (Procedure program version number arguments) ≡ asks_mount number arguments = rw (e, g) refl in
        absurd (mount_not_nine (mount_requested number arguments) operation (sym here ∙ is))
    of true b false e f g =
        let here : asks (Procedure program version number arguments) ≡ Err (ProgramMismatch 3) = rw (e, g) refl in
        let bad : Err (ProgramMismatch 3) ≡ Ok (nine operation) = sym here ∙ is in
        absurd cc
    of false true true e f g =
        let here : asks (Procedure program version number arguments) ≡ asks_files number arguments = rw (e, f, g) refl in
        let there : asks_nine_alone (Procedure program version number arguments) ≡ called (procedure_of number) arguments = rw (f, g) refl in
        there ∙ of_query (query_procedure_of number) (sym here ∙ is)
    of false true false e f g =
        let here : asks (Procedure program version number arguments) ≡ Err (ProgramMismatch 3) = rw (e, f, g) refl in
        let bad : Err (ProgramMismatch 3) ≡ Ok (nine operation) = sym here ∙ is in
        absurd cc
    of false false c e f g =
        let here : asks (Procedure program version number arguments) ≡ Err ProgramUnavailable = rw (e, f) refl in
        let bad : Err ProgramUnavailable ≡ Ok (nine operation) = sym here ∙ is in
        absurd cc
