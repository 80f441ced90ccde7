mod Examples
mod RecordRuns
