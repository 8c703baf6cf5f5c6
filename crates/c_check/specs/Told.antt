-- What is noted, found and in scope after a part of a program.
use Rattle.std.specs.Prelude.{◌≡◌, List, Option}
use Rattle.c_kernel.specs.declared.types.CType.{CType}
use Rattle.c_kernel.specs.declared.types.Struct.{Struct}
use Rattle.c_rules.specs.declared.signature.Signature.{Signature}
use Rattle.c_rules.specs.Judged.{Judged, Notes}
use Rattle.c_rules.specs.Scope.{Bytes, Scope, scope_of}
use Rattle.c_rules.specs.Table.{called}
use Rattle.c_check.specs.declared.judge.Judge.{Judge}
use Rattle.c_check.specs.declared.judge.Known.{Known}
use Rattle.c_check.specs.declared.judge.Names.{Names}
use Rattle.c_check.specs.declared.walker.Around.{Around}
use Rattle.c_check.specs.declared.walker.Walker.{Walker}
use Rattle.c_check.specs.Statement.{Walk, Walked}

-- the functions that can be called
abbrev pub table : Known → Bytes → Option Signature
table known = called known.functions.now.entries

-- a word of the definitions, where this is known and these names are in scope
abbrev pub knowing : {A : Type 0} → Known → ((Bytes → Option Signature) → List Struct → A) → A
knowing known word = word (table known) known.structs.now

abbrev pub among : {A : Type 0} → Names → ((Bytes → Option Signature) → List Struct → Scope → A) → A
among names word = knowing names.known word (scope_of names.scope.now)

-- and in a function
abbrev pub within : {A : Type 0} → Around → ((Bytes → Option Signature) → List Struct → CType → A) → A
within around word = knowing around.known word around.result_type

-- a part is found to be this, and what it breaks is noted
abbrev pub Tells : {A : Type 0} → Judge → Judge → Option A → Judged A → Type 0
Tells before now found judged = record { found : found ≡ judged.found; breaches : Notes before.breaches now.breaches judged.breaches }

-- and its names are in scope; the blocks around stay as they are
abbrev pub Leads : {A : Type 0} → Walker → Walker → Option A → Walked A → Type 0
Leads before now found walked = record {
  found : found ≡ walked.judged.found;
  breaches : Notes before.judge.breaches now.judge.breaches walked.judged.breaches;
  scope : scope_of now.scope ≡ walked.scope;
  around : (scope_of now.scope).around ≡ (scope_of before.scope).around;
}

abbrev pub Walks : {A : Type 0} → Walker → Walker → Option A → Walk A → Type 0
Walks before now found walk = Leads before now found (walk (scope_of before.scope))
