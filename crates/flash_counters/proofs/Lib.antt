mod GoOn
