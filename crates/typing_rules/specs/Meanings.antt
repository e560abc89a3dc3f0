-- What names mean in the tables of the program.
use Rattle.std.specs.Prelude.{List, Option, None, Some}
use Rattle.std.specs.Str.{bytes_eq}
use Rattle.std.specs.HashMap.{get_by}
use denote.Ref.{Bor}
use Rattle.lynx_tree.specs.declared.declaration.TypeName.{TypeName}
use Rattle.typing_rules.specs.declared.names.Named.{Named}
use Rattle.typing_rules.specs.declared.names.Named.TheVariants as named
use Rattle.typing_rules.specs.declared.names.Names.{Names as NameTable}
use Rattle.typing_rules.specs.declared.scope.Scope.{Scope as NameScope}
use Rattle.typing_rules.specs.Names.{Meaning, Variable, Operation, Entry, Scope, or_outside}

abbrev pub meaning_of : Named → Meaning
meaning_of (named.Variable t) = Variable t
meaning_of (named.Operation arguments results) = Operation arguments.now results.now
meaning_of named.Entry = Entry

abbrev pub meaning_known : Option Named → Option Meaning
meaning_known None = None
meaning_known (Some meaning) = Some (meaning_of meaning)

-- what a table has at a name
abbrev pub look : NameTable → Scope
look table name = meaning_known (get_by (λ k. bytes_eq name k.bytes.now) table.meanings)

-- the names of an entry, where there is one
abbrev pub look_in : Option (Bor NameTable) → Scope
look_in None name = None
look_in (Some locals) name = look locals.now name

-- a name means the local of that name, else what it means in the module
abbrev pub scope_of : NameScope → Scope
scope_of scope name = or_outside (look_in scope.locals name) (look scope.module.now name)

-- the types of a list, where it is known
abbrev pub types_known : Option (Bor (List TypeName)) → Option (List TypeName)
types_known None = None
types_known (Some ts) = Some ts.now
