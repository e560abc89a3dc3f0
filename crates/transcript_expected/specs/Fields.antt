-- What stands behind a name in the form of a line.
use Rattle.std.specs.Prelude.{ℕ, ◌==◌, if◌then◌else◌, List, [], ◌++◌, Option, Some, None, codes}
use Rattle.std.specs.Str.{bytes_eq}
use Rattle.transcript_expected.specs.declared.fields.More.{More}
use Rattle.transcript_expected.specs.declared.fields.More.TheVariants as more

pub record FieldsView : Type 0 where
  pub text : List ℕ
  pub more : More

abbrev pub plain : List ℕ → Option FieldsView
plain text = Some (record { text = text; more = more.Nothing })

abbrev pub with_ends : List ℕ → Option FieldsView
with_ends text = Some (record { text = text; more = more.Ends })

abbrev pub with_values : List ℕ → Option FieldsView
with_values text = Some (record { text = text; more = more.Values })

-- the fields of a call of this name, if there is one
unfoldable pub call_fields : List ℕ → Option FieldsView
call_fields name =
    if bytes_eq name (codes "make") then plain []
    else if bytes_eq name (codes "destroy") then plain (codes " END")
    else if bytes_eq name (codes "send") then with_ends (codes " END TEXT")
    else if bytes_eq name (codes "receive") then plain (codes " END")
    else if bytes_eq name (codes "cancel") then plain (codes " END WAY")
    else if bytes_eq name (codes "wait") then plain []
    else if bytes_eq name (codes "print") then plain (codes " TEXT")
    else if bytes_eq name (codes "exit") then plain []
    else None

-- the fields of a packet of this name, if there is one
unfoldable pub packet_fields : List ℕ → Option FieldsView
packet_fields name =
    if bytes_eq name (codes "want") then plain (codes " END W AT HOPS")
    else if bytes_eq name (codes "unwant") then plain (codes " END W AT HOPS")
    else if bytes_eq name (codes "unwanted") then plain (codes " END W AT HOPS")
    else if bytes_eq name (codes "parcel") then with_values (codes " END N W AT HOPS TEXT")
    else if bytes_eq name (codes "taken") then plain (codes " END N AT HOPS")
    else if bytes_eq name (codes "back") then with_values (codes " END N")
    else if bytes_eq name (codes "gone") then plain (codes " END AT")
    else if bytes_eq name (codes "moved") then plain (codes " END AT HOPS")
    else if bytes_eq name (codes "known") then plain (codes " END HOPS")
    else if bytes_eq name (codes "forget") then plain (codes " END HOPS")
    else if bytes_eq name (codes "goneseen") then plain (codes " END")
    else None

-- those of an exit, and of the steps that are no calls of a process
unfoldable pub later_fields : List ℕ → Option FieldsView
later_fields name =
    if bytes_eq name (codes "exit") then plain (codes " pP")
    else if bytes_eq name (codes "match") then plain (codes " END N")
    else if bytes_eq name (codes "take") then plain (codes " END N pP[ late]")
    else if bytes_eq name (codes "complete") then plain (codes " END N")
    else if bytes_eq name (codes "back") then plain (codes " END N[ dead]")
    else if bytes_eq name (codes "withdraw") then plain (codes " END")
    else if bytes_eq name (codes "notice") then plain (codes " END[ dead]")
    else if bytes_eq name (codes "free") then plain (codes " END")
    else None

-- the fields of a service step of this name, if there is one
unfoldable pub step_fields : List ℕ → Option FieldsView
step_fields name =
    if bytes_eq name (codes "make") then plain (codes " END END")
    else if bytes_eq name (codes "refuse") then plain (codes " pP CAUSE")
    else if bytes_eq name (codes "destroy") then plain (codes " END")
    else if bytes_eq name (codes "send") then with_ends (codes " END N")
    else if bytes_eq name (codes "receive") then plain (codes " END")
    else if bytes_eq name (codes "cancel") then plain (codes " END WAY")
    else if bytes_eq name (codes "wait") then plain (codes " pP")
    else if bytes_eq name (codes "report") then plain (codes " pP END RESULT")
    else later_fields name

-- what may stand once in version 1, and else up to eight times
abbrev pub most_text : ℕ → List ℕ
most_text version = if version == 1 then codes "]" else codes " ..8]"

abbrev pub listed : ℕ → List ℕ → List ℕ
listed version what = what ++ most_text version

abbrev pub more_text : ℕ → More → List ℕ
more_text version more.Nothing = []
more_text version more.Ends = listed version (codes "[ +END")
more_text version more.Values = listed version (codes "[ +VALUE")

-- how the fields behind a name are written
abbrev pub fields_text : ℕ → FieldsView → List ℕ
fields_text version f = f.text ++ more_text version f.more
