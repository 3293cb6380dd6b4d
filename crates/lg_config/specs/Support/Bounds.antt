-- The bounds and defaults of the definitions are the constants of the code.
use Rattle.std.specs.Prelude.{◌≡◌, refl}
use Rattle.lg_config.specs.declared.document.TheConstants.{MAX_FILE}
use Rattle.lg_config.specs.declared.host.TheConstants.{MAX_HOST}
use Rattle.lg_config.specs.declared.file_path.TheConstants.{MAX_PATH}
use Rattle.lg_config.specs.declared.node_keys.TheConstants.{MAX_PULL_MS, MAX_RECORD_MB, MAX_RESOLVE_MS, MAX_STALL_MS}
use Rattle.lg_config.specs.declared.node_keys.TheConstants.{MIN_RECORD_MB, MIN_RESOLVE_MS}
use Rattle.lg_config.specs.declared.settings.TheConstants.{DEFAULT_PORT}
use Rattle.lg_config.specs.Meaning.Bounds.{most_bytes, most_path_bytes, most_pull_ms, most_stall_ms}
use Rattle.lg_config.specs.Meaning.Bounds.{default_port, least_record_mb, least_resolve_ms, most_host_bytes}
use Rattle.lg_config.specs.Meaning.Bounds.{most_record_mb, most_resolve_ms}

most_bytes-is : MAX_FILE ≡ most_bytes
most_bytes-is = refl

most_path_bytes-is : MAX_PATH ≡ most_path_bytes
most_path_bytes-is = refl

most_pull_ms-is : MAX_PULL_MS ≡ most_pull_ms
most_pull_ms-is = refl

most_stall_ms-is : MAX_STALL_MS ≡ most_stall_ms
most_stall_ms-is = refl

least_resolve_ms-is : MIN_RESOLVE_MS ≡ least_resolve_ms
least_resolve_ms-is = refl

most_resolve_ms-is : MAX_RESOLVE_MS ≡ most_resolve_ms
most_resolve_ms-is = refl

least_record_mb-is : MIN_RECORD_MB ≡ least_record_mb
least_record_mb-is = refl

most_record_mb-is : MAX_RECORD_MB ≡ most_record_mb
most_record_mb-is = refl

most_host_bytes-is : MAX_HOST ≡ most_host_bytes
most_host_bytes-is = refl

default_port-is : DEFAULT_PORT ≡ default_port
default_port-is = refl
