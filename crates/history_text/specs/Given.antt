-- What the lines of a history said so far.
use Rattle.std.specs.Prelude.{ℕ, ◌+◌, List, [], ◌∷◌, ◌++◌, nat_lt, if◌then◌else◌, replicate}
use Rattle.std.specs.Prelude.{Option, slice_get, bytes_eq}
use Rattle.indexmap.specs.IndexMap.{insert_entry}
use Rattle.charlotte_calls.specs.declared.names.LinkId.{LinkId}
use Rattle.charlotte_calls.specs.declared.names.Pid.{Pid}
use Rattle.charlotte_calls.specs.declared.setting.Setting.{Setting}
use Rattle.service_step.specs.State.{next_at, counts}
use Rattle.history_text.specs.Names.{Table}
use Rattle.history_text.specs.declared.meaning.Meaning.{Meaning}
use Rattle.history_text.specs.declared.meaning.Meaning.TheVariants as meaning
use Rattle.history_text.specs.declared.stage.Stage.{Stage}
use Rattle.history_text.specs.declared.stage.Stage.TheVariants as stage

-- the version, the processes with their homes, the wires, the links that were told, and which lines may follow
pub record Given : Type 0 where
  pub stage : Stage
  pub version : ℕ
  -- the greatest home and 1
  pub kernels : ℕ
  pub processes : Table Pid
  pub homes : List ℕ
  pub wires : List (Pid × Pid)
  pub links : Table LinkId
  -- how many links each kernel has made
  pub made : List ℕ

-- before the first line
abbrev pub nothing : Given
nothing = record {
  stage = stage.Start;
  version = 1;
  kernels = 1;
  processes = [];
  homes = [];
  wires = [];
  links = [];
  made = replicate 8 0;
}

-- the setting of the header
abbrev pub setting_given : Given → Setting
setting_given g = record { version = g.version; kernels = g.kernels; homes = g.homes; wires = g.wires }

-- the next link that p's home makes
abbrev pub next_given : Given → Pid → Option LinkId
next_given g p = next_at (slice_get g.homes p.0) g.made

abbrev pub greater : ℕ → ℕ → ℕ
greater a b = if nat_lt a b then b else a

-- with a link of this name
abbrev pub with_link : List ℕ → LinkId → Given → Given
with_link name link g = record g { links = insert_entry bytes_eq g.links name link; made = counts link.maker g.made }

-- with a process of this name
abbrev pub with_process : List ℕ → Pid → ℕ → Given → Given
with_process name p home g =
    record g { processes = insert_entry bytes_eq g.processes name p; homes = g.homes ++ home ∷ []; kernels = greater g.kernels (home + 1) }

-- what is said with one more line
unfoldable pub with_meaning : Given → Meaning → Given
with_meaning g (meaning.Version v) = record g { version = v; stage = stage.Processes }
with_meaning g (meaning.Process name p home) = with_process name p home g
with_meaning g (meaning.Wire name link p q) = with_link name link (record g { wires = g.wires ++ (p, q) ∷ []; stage = stage.Wires })
with_meaning g (meaning.Make name link) = with_link name link (record g { stage = stage.Steps })
with_meaning g meaning.Step = record g { stage = stage.Steps }
