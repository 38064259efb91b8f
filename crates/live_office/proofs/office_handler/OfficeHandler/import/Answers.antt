use Rattle.live_office.proofs.office_handler.OfficeHandler.import.Goals as goal

pub failed-requires : goal.failed-requires
failed-requires g c = ∣ c.import_at-result.ensures.shut (c.is_failed_store.ensures c.if-is_failed_store.true) ∣₁
