-- The metrics as text, in the format 0.0.4 of Prometheus.
use Rattle.std.specs.Prelude.{ℕ, ◌/◌, ◌%◌, List, ◌++◌, codes, count_by, decimal}
use Rattle.std.specs.List.{flat_map}
use Rattle.lg_rules.specs.declared.claim.Claim.{Claim}
use Rattle.lg_text.specs.Meaning.Lines.{newline}
use Rattle.lg_answers.specs.declared.metric.Amount.{Amount}
use Rattle.lg_answers.specs.declared.metric.Amount.TheVariants.{Number, Milliseconds}
use Rattle.lg_answers.specs.declared.metric.Metric.{Metric}
use Rattle.lg_answers.specs.declared.route.StatusKind.{StatusKind}
use Rattle.lg_answers.specs.declared.route.StatusKind.TheVariants.{Alive, Suspect, Failed, Left}
use Rattle.lg_counters.specs.declared.counts.Drops.{Drops}
use Rattle.lg_answers.specs.declared.snapshot.Snapshot.{Snapshot}
use Rattle.lg_answers.specs.Meaning.MetricTable.{metrics, metric_amount, metric_help, metric_name, metric_type}
use Rattle.lg_answers.specs.Meaning.Routes.{is_kind_of, status_kinds}

-- # HELP NAME HELP, and # TYPE NAME TYPE
unfoldable pub metric_head : List ℕ → List ℕ → List ℕ → List ℕ
metric_head name help type =
    codes "# HELP " ++ (name ++ (codes " " ++ (help ++ (codes "\n# TYPE "
    ++ (name ++ (codes " " ++ (type ++ newline)))))))

-- milliseconds in seconds, with three digits behind the point
abbrev pub seconds_text : ℕ → List ℕ
seconds_text ms =
    decimal (ms / 1000) ++ (codes "." ++ (decimal (ms / 100 % 10) ++ (decimal (ms / 10 % 10) ++ decimal (ms % 10))))

abbrev pub amount_text : Amount → List ℕ
amount_text (Number n) = decimal n
amount_text (Milliseconds ms) = seconds_text ms

-- a metric of one value: NAME VALUE behind its head
unfoldable pub metric_lines : Snapshot → Metric → List ℕ
metric_lines s metric =
    metric_head (metric_name metric) (metric_help metric) (metric_type metric)
    ++ metric_name metric ++ codes " " ++ amount_text (metric_amount metric s) ++ newline

-- how many members have each status: NAME{status="STATUS"} VALUE
abbrev pub kind_word : StatusKind → List ℕ
kind_word Alive = codes "alive"
kind_word Suspect = codes "suspect"
kind_word Failed = codes "failed"
kind_word Left = codes "left"

abbrev pub count_of_kind : StatusKind → List Claim → ℕ
count_of_kind kind records = count_by (λ c. is_kind_of kind c.status) records

unfoldable pub status_line : List ℕ → ℕ → List ℕ
status_line status count = codes "lg_members{status=\"" ++ (status ++ (codes "\"} " ++ (decimal count ++ newline)))

unfoldable pub kind_line : List Claim → StatusKind → List ℕ
kind_line records kind = status_line (kind_word kind) (count_of_kind kind records)

unfoldable pub members_lines : List Claim → List ℕ
members_lines records =
    metric_head (codes "lg_members") (codes "Members known, this member included, by status.") (codes "gauge")
    ++ flat_map (kind_line records) status_kinds

-- how many datagrams were dropped for each fault: NAME{fault="FAULT"} VALUE
unfoldable pub drops_sample : List ℕ → ℕ → List ℕ
drops_sample fault count =
    codes "lg_datagrams_dropped_total{fault=\"" ++ (fault ++ (codes "\"} " ++ (decimal count ++ newline)))

abbrev pub drops_line : Drops → List ℕ
drops_line drops = drops_sample drops.fault.now drops.count

unfoldable pub dropped_lines : List Drops → List ℕ
dropped_lines dropped =
    metric_head (codes "lg_datagrams_dropped_total") (codes "Datagrams dropped, by the fault of their bytes.")
    (codes "counter")
    ++ flat_map drops_line dropped

unfoldable pub metrics_body : Snapshot → List ℕ
metrics_body s =
    members_lines s.records.items ++ flat_map (metric_lines s) metrics ++ dropped_lines s.dropped.items
