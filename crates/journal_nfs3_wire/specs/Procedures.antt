-- The procedures that are served, by their numbers (RFC 1813, section 3.3).
use Rattle.std.specs.Prelude.{◌≡◌, refl, ℕ, List, [], ◌∷◌, Option, Some}
use Rattle.journal_xdr.specs.Basic.{listed}
use Rattle.journal_xdr.specs.BasicLaws.{listed_back}
use Rattle.journal_nfs3_wire.specs.declared.procedure.Procedure.{Procedure}
use Rattle.journal_nfs3_wire.specs.declared.procedure.Procedure.TheVariants.{Null, GetAttributes, SetAttributes, Lookup, Read, Write, Create, Remove, Commit}

abbrev pub procedures : List (ℕ × Procedure)
procedures =
    (0, Null) ∷ (1, GetAttributes) ∷ (2, SetAttributes) ∷ (3, Lookup) ∷ (6, Read) ∷ (7, Write) ∷ (8, Create) ∷ (12, Remove) ∷ (21, Commit) ∷ []

abbrev pub procedure_of : ℕ → Option Procedure
procedure_of n = listed procedures n

abbrev pub procedure_number : Procedure → ℕ
procedure_number Null = 0
procedure_number GetAttributes = 1
procedure_number SetAttributes = 2
procedure_number Lookup = 3
procedure_number Read = 6
procedure_number Write = 7
procedure_number Create = 8
procedure_number Remove = 12
procedure_number Commit = 21

pub procedure_is : (p : Procedure) → procedure_of (procedure_number p) ≡ Some p
procedure_is Null = refl
procedure_is GetAttributes = refl
procedure_is SetAttributes = refl
procedure_is Lookup = refl
procedure_is Read = refl
procedure_is Write = refl
procedure_is Create = refl
procedure_is Remove = refl
procedure_is Commit = refl

pub procedure_back : (n : ℕ) (p : Procedure) → procedure_of n ≡ Some p → procedure_number p ≡ n
procedure_back = listed_back procedure_number procedures (refl, (refl, (refl, (refl, (refl, (refl, (refl, (refl, (refl, tt)))))))))
