-- What a line asks, as it is stored.
use Rattle.lynx_plan.specs.declared.compact.StoredScriptCall.{StoredScriptCall}
use Rattle.lynx_plan.specs.declared.compact.StoredScriptCall.TheVariants as stored
use Rattle.lynx_plan.specs.declared.script.ScriptCall.{ScriptCall}
use Rattle.lynx_plan.specs.declared.script.ScriptCall.TheVariants as script

abbrev pub script_call_of : StoredScriptCall → ScriptCall
script_call_of (stored.Ask p call) = script.Ask p call
script_call_of (stored.Take from to) = script.Take from to
script_call_of stored.Settle = script.Settle
