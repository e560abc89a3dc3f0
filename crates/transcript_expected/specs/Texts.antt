-- How the forms of lines are written, and which are expected in a place.
use Rattle.std.specs.Prelude.{ℕ, ◌&&◌, Bool, true, false, if◌then◌else◌, List, [], ◌∷◌, ◌++◌, Option, Some, None, is_some, is_err, option_map, option_and_then, codes, drop, slice_get}
use Rattle.std.specs.Char.{is_ascii_digit}
use Rattle.std.specs.List.{list_all}
use Rattle.std.specs.Str.{bytes_eq}
use Rattle.charlotte_text.specs.Reading.{words}
use Rattle.charlotte_text.specs.Spelling.{number_text}
use Rattle.transcript_expected.specs.Fields.{FieldsView, call_fields, fields_text, packet_fields, step_fields}
use Rattle.transcript_expected.specs.Forms.{may_stand}
use Rattle.transcript_expected.specs.declared.form.Form.{Form}
use Rattle.transcript_expected.specs.declared.form.Form.TheVariants as form
use Rattle.transcript_reading.specs.Forms.{kind_of}
use Rattle.transcript_reading.specs.Order.{Place, Processes, Wires, Noted, Over}
use Rattle.transcript_shown.specs.Listing.{ListingView, with_items}

-- ---- a form in a place

abbrev pub process_form : Place → List ℕ
process_form (Processes kernels processes) = codes "process " ++ number_text processes ++ codes " on K, K below " ++ number_text kernels
process_form place = codes "process "

abbrev pub wire_form : Place → List ℕ
wire_form (Processes kernels processes) = codes "wire I J, I and J below " ++ number_text processes
wire_form (Wires processes wires) = codes "wire I J, I and J below " ++ number_text processes
wire_form place = codes "wire I J, I and J below "

abbrev pub note_form : Place → List ℕ → List ℕ
note_form (Noted line) what = codes "note LINE " ++ what ++ codes ", LINE above " ++ number_text line
note_form place what = codes "note LINE " ++ what

-- how a form is written in a place: capitals stand for values, and `STEP`, `CALL` and `PACKET` for any of these
abbrev pub form_texts : Place → Form → List (List ℕ)
form_texts place form.First = codes "transcript 1" ∷ codes "transcript 2" ∷ []
form_texts place form.Kernels = codes "kernels N, N from 1 to 8" ∷ []
form_texts place form.Process = process_form place ∷ []
form_texts place form.Wire = wire_form place ∷ []
form_texts place form.Step = codes ". STEP" ∷ []
form_texts place form.Call = codes "STAMP kK pP CALL" ∷ []
form_texts place form.Packet = codes "STAMP kK from J PACKET" ∷ []
form_texts place form.Note = note_form place (codes "nothing") ∷ note_form place (codes "waits") ∷ []
form_texts place form.Quiet = codes "quiet" ∷ []
form_texts place form.Open = codes "open" ∷ []
form_texts place form.Spent = codes "spent K" ∷ []

-- ---- those that may stand in a place

-- all forms, in the order in which they are told
abbrev pub all_forms : List Form
all_forms =
    form.First ∷ form.Kernels ∷ form.Process ∷ form.Wire ∷ form.Step ∷ form.Call ∷ form.Packet ∷ form.Note ∷ form.Quiet ∷ form.Open
    ∷ form.Spent ∷ []

-- a form, if some line of it may stand in a place
abbrev pub standing_texts : Place → Form → List (List ℕ)
standing_texts place f = if may_stand place f then form_texts place f else []

-- those of these forms of which some line may
abbrev pub texts_that_stand : Place → List Form → List (List ℕ)
texts_that_stand place [] = []
texts_that_stand place (f ∷ fs) = standing_texts place f ++ texts_that_stand place fs

-- the same, added one form after the other
abbrev pub with_forms : Place → List Form → ListingView → ListingView
with_forms place [] l = l
with_forms place (f ∷ fs) l = with_forms place fs (with_items (standing_texts place f) l)

-- ---- as what a line begins

-- the word of a line with so many before it
abbrev pub word_in : List ℕ → ℕ → Option (List ℕ)
word_in line before = slice_get (drop before (words line)) 0

-- an entry is one of a packet or of a call
abbrev pub entry_form : Option (List ℕ) → Option Form
entry_form None = None
entry_form (Some word) = if bytes_eq word (codes "from") then Some form.Packet else Some form.Call

-- the first word of an entry is its stamp
abbrev pub form_of_stamp : List ℕ → List ℕ → Option Form
form_of_stamp line first = if list_all is_ascii_digit first then entry_form (word_in line 2) else None

unfoldable pub form_of_first : List ℕ → List ℕ → Option Form
form_of_first line first =
    if bytes_eq first (codes "transcript") then Some form.First
    else if bytes_eq first (codes "kernels") then Some form.Kernels
    else if bytes_eq first (codes "process") then Some form.Process
    else if bytes_eq first (codes "wire") then Some form.Wire
    else if bytes_eq first (codes ".") then Some form.Step
    else if bytes_eq first (codes "note") then Some form.Note
    else if bytes_eq first (codes "quiet") then Some form.Quiet
    else if bytes_eq first (codes "open") then Some form.Open
    else if bytes_eq first (codes "spent") then Some form.Spent
    else form_of_stamp line first

-- the form that a line begins as, by its first words
abbrev pub form_begun : List ℕ → Option Form
form_begun line = option_and_then (form_of_first line) (word_in line 0)

-- ---- with its name

-- a name, if it is one with fields
abbrev pub named : (List ℕ → Option FieldsView) → Option (List ℕ) → Option (List ℕ × FieldsView)
named fields None = None
named fields (Some name) = option_map (λ f. (name, f)) (fields name)

-- the name in a line of this form, with the fields behind it
unfoldable pub name_in : Form → List ℕ → Option (List ℕ × FieldsView)
name_in form.Step line = named step_fields (word_in line 1)
name_in form.Call line = named call_fields (word_in line 3)
name_in form.Packet line = named packet_fields (word_in line 4)
name_in f line = None

-- what stands before the name
abbrev pub before_name : Form → List ℕ
before_name form.Step = codes ". "
before_name form.Call = codes "STAMP kK pP "
before_name form.Packet = codes "STAMP kK from J "
before_name f = []

-- the form as it stands in a place, with a name and its fields, where it has them
abbrev pub named_texts : Place → ℕ → Form → Option (List ℕ × FieldsView) → List (List ℕ)
named_texts place version f None = form_texts place f
named_texts place version f (Some x) = (before_name f ++ x.0 ++ fields_text version x.1) ∷ []

-- forms whose lines have names are begun only with one
abbrev pub is_begun : Form → List ℕ → Bool
is_begun form.Step line = is_some (name_in form.Step line)
is_begun form.Call line = is_some (name_in form.Call line)
is_begun form.Packet line = is_some (name_in form.Packet line)
is_begun f line = true

-- ---- what is expected

-- a line has none of the forms of its version, and begins as one that may stand in a place, with its name
abbrev pub misspells : Place → ℕ → List ℕ → Form → Bool
misspells place version line f = is_begun f line && is_err (kind_of version (words line)) && may_stand place f

-- that form
abbrev pub misspelled : Place → ℕ → List ℕ → Option Form → Option Form
misspelled place version line None = None
misspelled place version line (Some f) = if misspells place version line f then Some f else None

abbrev pub expected_by : Place → ℕ → List ℕ → Option Form → List (List ℕ)
expected_by place version line None = texts_that_stand place all_forms
expected_by place version line (Some f) = named_texts place version f (name_in f line)

-- Of a line that is misspelled its form is expected, and else each form of which some line may stand in the place. Behind the last line it is the end
-- of the text.
abbrev pub expected_texts : Place → ℕ → List ℕ → List (List ℕ)
expected_texts Over version line = codes "the end of the text" ∷ []
expected_texts place version line = expected_by place version line (misspelled place version line (form_begun line))
